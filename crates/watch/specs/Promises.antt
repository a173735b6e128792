-- What the watch promises beyond its two equations; proofs/Promises.antt shows it.
use Rattle.std.specs.Prelude.{◌≡◌, Bool, true, false, ◌↔◌, ◌≢◌, ℕ, ◌≤◌, ◌<◌}
use Rattle.base.specs.Count.{count_below}
use Rattle.base.specs.Mask.{in_mask}
use Rattle.base.specs.Bytes.{Bytes}
use Rattle.setup.specs.Setup.{faults}
use Rattle.table.specs.View.{View}
use Rattle.table.specs.Layout.{setup_of, count_of, view_of}
use Rattle.table.specs.Form.{in_form}
use Rattle.watch.specs.Forks.{everywhere, of_site, forks}
use Rattle.watch.specs.Ancestors.{PlaceAncestor, ancestors}

-- two held blocks of site p, among the places looked at, share a sequence number
pub record Shares (v : View) (seen : ℕ → Bool) (p : ℕ) : Type 0 where
  pub one : ℕ
  pub other : ℕ
  pub different : one < other
  pub held : other < v.held
  pub one_of : of_site v seen p one ≡ true
  pub other_of : of_site v seen p other ≡ true
  pub sequence : (v.row one).sequence ≡ (v.row other).sequence

pub record Promises : Type 0 where
  -- each refusal comes under its cause and under no other
  pub two : (t : Bytes) → ((forks t).refusal ≡ 2) ↔ (in_form t ≡ false)
  pub forks_none : (t : Bytes) → ((forks t).refusal ≡ 0) ↔ (in_form t ≡ true)
  pub ancestors_two : (t : Bytes) (i : ℕ) → ((ancestors t i).refusal ≡ 2) ↔ (in_form t ≡ false)
  pub thirteen : (t : Bytes) (i : ℕ) → ((ancestors t i).refusal ≡ 13) ↔ ((in_form t ≡ true) × (count_of t ≤ i))
  pub none : (t : Bytes) (i : ℕ) → ((ancestors t i).refusal ≡ 0) ↔ ((in_form t ≡ true) × (i < count_of t))
  -- beside a refusal mask and count are 0
  pub no_sites : (t : Bytes) → (forks t).refusal ≢ 0 → ((forks t).sites ≡ 0) × ((forks t).count ≡ 0)
  pub no_places : (t : Bytes) (i : ℕ) → (ancestors t i).refusal ≢ 0 → ((ancestors t i).places ≡ 0) × ((ancestors t i).count ≡ 0)
  -- the set bits of the mask of `forks` are exactly the sites that forked
  pub forked : (t : Bytes) → in_form t ≡ true → (p : ℕ) → (in_mask (forks t).sites p ≡ true) ↔ Shares (view_of t) everywhere p
  -- the count of `forks` is how many sites the mask has, and the last field whether that is at most f
  pub counted : (t : Bytes) → (forks t).count ≡ count_below (in_mask (forks t).sites) (setup_of t).sites
  pub at_most : (t : Bytes) → ((forks t).at_most_f ≡ true) ↔ ((in_form t ≡ true) × ((forks t).count ≤ faults (setup_of t).sites))
  -- the set bits of the mask of `ancestors` are exactly the ancestors of place i, and the count is how many they are
  pub ancestor : (t : Bytes) (i : ℕ) → in_form t ≡ true → i < count_of t → (a : ℕ) → (in_mask (ancestors t i).places a ≡ true) ↔ PlaceAncestor (view_of t) a i
  pub ancestors_counted : (t : Bytes) (i : ℕ) → (ancestors t i).count ≡ count_below (in_mask (ancestors t i).places) (count_of t)
  -- place i is not among its own ancestors
  pub itself : (t : Bytes) (i : ℕ) → in_mask (ancestors t i).places i ≡ false
