-- What the contracts of inner functions cite; nothing here need be believed. Prints are a quick test that no earlier number has the key of this one:
-- each number has a group and a print below 64, both made from its key, so that numbers of one key have both in common, and numbers of different keys
-- seldom do. A mask for each group keeps which prints were met in the group.
use Rattle.std.specs.Prelude.{◌≡◌, Bool, ◌&&◌, List, Option, ℕ, suc, ◌-◌, ◌^◌, ◌≤◌, ◌<◌, eqb}
use Rattle.std.specs.Option.{MatchOption}
use Rattle.base.specs.Search.{any_below}
use Rattle.base.specs.List.{list_below}
use Rattle.base.specs.Mask.{mask_below}

-- how many prints there are: as many as a mask has bits
abbrev pub print_count : ℕ
print_count = 64

module _ (group print : ℕ → ℕ) where
  -- whether number j is of this group and has this print
  abbrev pub has_print : ℕ → ℕ → ℕ → Bool
  has_print g p j = eqb (group j) g && eqb (print j) p

  -- the mask of the prints that the numbers below k have in group g
  abbrev pub prints_below : ℕ → ℕ → ℕ
  prints_below k g = mask_below (λ p. any_below (has_print g p) k) print_count

  -- the masks of the prints below k, one for each of the groups
  abbrev pub groups_below : ℕ → ℕ → List ℕ
  groups_below groups k = list_below (prints_below k) groups

-- a step over the numbers in the mask m: none where it is empty, else its highest number j, and the mask without it is left
abbrev pub TakesHighest : ℕ → Option ℕ → ℕ → Type 0
TakesHighest m taken left = MatchOption taken (m ≡ 0) (λ j. (j < 64) × (2 ^ j ≤ m) × (m < 2 ^ suc j) × (left ≡ m - 2 ^ j))
