use Rattle.std.proofs.Common.{ℕ, ◌+◌, ◌≤◌, List, ◌++◌, ◌≡◌, length, take, drop, sym, ap, subst, ◌∙◌, arith, drop_at, length-take-le}
use Rattle.std.proofs.lemmas.List.{drop-take, take-append-le}
use Rattle.std.specs.Io.KnownBytes.{Consumes}
use Rattle.std.specs.declared.option.Option.{Option}
use Rattle.listing.proofs.read_more.Goals as goal

-- What a read put into the part behind the front stands there.
read_behind : (a b : Option (List ℕ)) (front part rest : List ℕ) (at n : ℕ) → length front ≡ at → n ≤ length part
    → Consumes a b (take n part) → Consumes a b (drop at (take (at + n) (front ++ (part ++ rest))))
read_behind a b front part rest at n long fits read =
    subst (Consumes a b) (sym (drop-take at n _ ∙ ap (take n) (drop_at front (part ++ rest) at long) ∙ take-append-le n part rest fits)) read

pub returns-in-Ok-clause-bytes_read : goal.returns-in-Ok-clause-bytes_read
returns-in-Ok-clause-bytes_read g c =
    let e = c.in-Ok.ensures in
    let long = length-take-le c.args.count c.args.input.now (omega arith) in
    read_behind _ _ _ c.read.new.buf _ _ c.in-Ok.more long e.bound.0 e.bytes.0
