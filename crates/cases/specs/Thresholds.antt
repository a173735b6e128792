-- Document 01, "One slot's process": READY at exactly 2f + 1 ECHOs or f + 1 READYs and delivery at exactly 2f + 1 READYs, and none of them at one
-- less, for n 4 (f 1) and n 7 (f 2). One site hears the messages of the others' blocks, one after the other. The digest is the toy one.
use Rattle.std.specs.Prelude.{◌≡◌, true, false, List, [], ◌∷◌, map, ℕ}
use Rattle.base.specs.Bytes.{Bytes}
use Rattle.base.specs.List.{list_below}
use Rattle.setup.specs.Setup.{lawful_sites, faults, echo_quorum, ready_amplification, ready_quorum}
use Rattle.broadcast.specs.Record.{none}
use Rattle.cases.specs.Toy.{toy, block}
use Rattle.cases.specs.Run.{Campaign, ◌making◌, readies, delivers, readies_and_delivers}
use Rattle.cases.specs.Blocks.{sites, three_sites, echoing, readying, echoed, echoed_by_five}
use Rattle.cases.specs.Starred.{two_echoes}

-- every lawful n: 1, 4, 7, 10, 13 and 16
abbrev pub lawful_counts : List ℕ
lawful_counts = 1 ∷ 4 ∷ 7 ∷ 10 ∷ 13 ∷ 16 ∷ []

-- the sites that send ECHO and READY in a campaign of seven
abbrev pub one_to_five : List ℕ
one_to_five = 1 ∷ 2 ∷ 3 ∷ 4 ∷ 5 ∷ []

-- ---- n 4: blocks of site 3 that hear READY of one site, of one more, and of three at once

unfoldable pub one_ready : Bytes
one_ready = block 3 0 (toy (readying three_sites 0) ∷ []) []

unfoldable pub one_more_ready : Bytes
one_more_ready = block 3 1 (toy one_ready ∷ toy (readying three_sites 1) ∷ []) []

unfoldable pub three_readies : Bytes
three_readies = block 3 0 (map (λ p. toy (readying three_sites p)) three_sites) []

-- ---- n 7: blocks of site 6 that hear four ECHOs, two READYs, a third READY, its own READY, and five READYs at once

unfoldable pub four_of_five_echoes : Bytes
four_of_five_echoes = block 6 0 (map (λ p. toy (echoing p)) (1 ∷ 2 ∷ 3 ∷ 4 ∷ [])) []

unfoldable pub two_readies_of_five : Bytes
two_readies_of_five = block 6 0 (map (λ p. toy (readying one_to_five p)) (1 ∷ 2 ∷ [])) []

unfoldable pub third_ready_of_five : Bytes
third_ready_of_five = block 6 1 (toy two_readies_of_five ∷ toy (readying one_to_five 3) ∷ []) []

unfoldable pub own_ready : Bytes
own_ready = block 6 2 (toy third_ready_of_five ∷ []) []

unfoldable pub five_readies : Bytes
five_readies = block 6 0 (map (λ p. toy (readying one_to_five p)) one_to_five) []

pub record ThresholdCases : Type 0 where
  -- "n is 1, 4, 7, 10, 13 or 16": whether each n from 0 to 17 is lawful
  pub site_counts :
      list_below lawful_sites 18
      ≡ false ∷ true ∷ false ∷ false ∷ true ∷ false ∷ false ∷ true ∷ false ∷ false ∷ true ∷ false ∷ false ∷ true ∷ false ∷ false ∷ true ∷ false ∷ []
  -- f, 2f + 1 ECHOs, f + 1 READYs and 2f + 1 READYs for each n
  pub faults_of : map faults lawful_counts ≡ 0 ∷ 1 ∷ 2 ∷ 3 ∷ 4 ∷ 5 ∷ []
  pub echo_quorums : map echo_quorum lawful_counts ≡ 1 ∷ 3 ∷ 5 ∷ 7 ∷ 9 ∷ 11 ∷ []
  pub ready_amplifications : map ready_amplification lawful_counts ≡ 1 ∷ 2 ∷ 3 ∷ 4 ∷ 5 ∷ 6 ∷ []
  pub ready_quorums : map ready_quorum lawful_counts ≡ 1 ∷ 3 ∷ 5 ∷ 7 ∷ 9 ∷ 11 ∷ []
  -- n 4, ECHO from two sites: nothing; from a third: READY
  pub echoes_of_four : Campaign (sites 4) 0
      (echoed
      (two_echoes making none
      ∷ block 3 1 (toy two_echoes ∷ toy (echoing 2) ∷ []) [] making readies 42
      ∷ []))
  -- n 4, READY from one site: nothing; from two: READY, no delivery; a block later the site's own READY is the third: delivery
  pub readies_of_four : Campaign (sites 4) 0
      (echoed
      (readying three_sites 0 making readies 42
      ∷ readying three_sites 1 making readies 42
      ∷ one_ready making none
      ∷ one_more_ready making readies 42
      ∷ block 3 2 (toy one_more_ready ∷ []) [] making delivers 42
      ∷ []))
  -- n 4, READY from three sites at once: READY and delivery; a block later the site's own READY is the fourth: nothing more
  pub readies_of_four_at_once : Campaign (sites 4) 0
      (echoed
      (readying three_sites 0 making readies 42
      ∷ readying three_sites 1 making readies 42
      ∷ readying three_sites 2 making readies 42
      ∷ three_readies making readies_and_delivers 42
      ∷ block 3 1 (toy three_readies ∷ []) [] making none
      ∷ []))
  -- n 7, ECHO from four sites: nothing; from a fifth: READY
  pub echoes_of_seven : Campaign (sites 7) 0
      (echoed_by_five
      (four_of_five_echoes making none
      ∷ block 6 1 (toy four_of_five_echoes ∷ toy (echoing 5) ∷ []) [] making readies 42
      ∷ []))
  -- n 7, READY from two sites: nothing; from three: READY; a block later the site's own READY is the fourth: no delivery; from a fifth: delivery
  pub readies_of_seven : Campaign (sites 7) 0
      (echoed_by_five
      (readying one_to_five 1 making readies 42
      ∷ readying one_to_five 2 making readies 42
      ∷ readying one_to_five 3 making readies 42
      ∷ readying one_to_five 4 making readies 42
      ∷ two_readies_of_five making none
      ∷ third_ready_of_five making readies 42
      ∷ own_ready making none
      ∷ block 6 3 (toy own_ready ∷ toy (readying one_to_five 4) ∷ []) [] making delivers 42
      ∷ []))
  -- n 7, READY from five sites at once: READY and delivery; a block later the site's own READY is the sixth: nothing more
  pub readies_of_seven_at_once : Campaign (sites 7) 0
      (echoed_by_five
      (readying one_to_five 1 making readies 42
      ∷ readying one_to_five 2 making readies 42
      ∷ readying one_to_five 3 making readies 42
      ∷ readying one_to_five 4 making readies 42
      ∷ readying one_to_five 5 making readies 42
      ∷ five_readies making readies_and_delivers 42
      ∷ block 6 1 (toy five_readies ∷ []) [] making none
      ∷ []))
