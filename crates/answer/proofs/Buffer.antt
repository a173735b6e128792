-- A list of answers put into a buffer, and a further list put behind it. Assumes nothing.
use mathlib.Core.Path.{◌≡◌, ap, ◌∙◌}
use mathlib.Core.List.{List, [], ◌∷◌, ◌++◌}
use Prim.Native.Nat.{ℕ, suc, ◌+◌}
use native.Mathlib.Omega.{arith}
use lib.ListN.{length}
use Rattle.answer.specs.Buffer.{put_answer, put_answers}
use Rattle.answer.specs.declared.Answer.{Answer}

pub put_append : (buffer : List ℕ) (i : ℕ) (os ps : List Answer) → put_answers (put_answers buffer i os) (i + length os) ps ≡ put_answers buffer i (os ++ ps)
unfolding put_answers
put_append buffer i [] ps = ap (λ (k : ℕ). put_answers buffer k ps) (omega arith)
put_append buffer i (o ∷ os) ps = ap (λ (k : ℕ). put_answers (put_answers (put_answer buffer i o) (suc i) os) k ps) (omega arith) ∙ put_append (put_answer buffer i o) (suc i) os ps
