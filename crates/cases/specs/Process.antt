-- Document 01, "One slot's process" and "Interpreting a place": rows for sentences that a wrong rule could break while the rows of Starred,
-- Thresholds and Traps still hold. Where nothing else is said site 0 owns the slot. The digest is the toy one.
use Rattle.std.specs.Prelude.{[], ◌∷◌, map}
use Rattle.base.specs.Bytes.{Bytes}
use Rattle.broadcast.specs.Record.{none, with_echo, with_ready, with_delivered}
use Rattle.cases.specs.Toy.{toy, request, block}
use Rattle.cases.specs.Run.{Campaign, ◌making◌, sends, echoes, readies, delivers, readies_and_delivers}
use Rattle.cases.specs.Blocks.{sites, first, fork, third, three_sites, echoing, readying, echoed, echoed_by_five}
use Rattle.cases.specs.Starred.{chained, two_readies}
use Rattle.cases.specs.Thresholds.{one_to_five, three_readies}
use Rattle.cases.specs.Traps.{mark, other_echoing, other_readying, idle, readying_three, shared_out}

-- ---- the blocks

-- site 0 requests nothing in its first block, and 42 in its second
unfoldable pub silent : Bytes
silent = block 0 0 [] []

unfoldable pub asks_later : Bytes
asks_later = block 0 1 (toy silent ∷ []) (request 0 42 ∷ [])

-- a block of site 2 that hears the SEND of site 0's second block
unfoldable pub hears_later : Bytes
hears_later = block 2 0 (toy asks_later ∷ []) []

-- site 0 begins a third branch, with a block that refers to its fork, and its next block
unfoldable pub branching : Bytes
branching = block 0 0 (toy fork ∷ []) []

unfoldable pub branching_on : Bytes
branching_on = block 0 1 (toy branching ∷ []) []

-- n 4: a block of site 3 that hears READY of site 2 alone, and its next, which hears ECHO of two other sites
unfoldable pub ready_of_two : Bytes
ready_of_two = block 3 0 (toy (readying three_sites 2) ∷ []) []

unfoldable pub echoes_of_others : Bytes
echoes_of_others = block 3 1 (toy ready_of_two ∷ toy (echoing 0) ∷ toy (echoing 1) ∷ []) []

-- n 7: a block of site 6 that hears ECHO of two sites and READY of three others
unfoldable pub three_readies_two_echoes : Bytes
three_readies_two_echoes =
    block 6 0 (toy (echoing 4) ∷ toy (echoing 5) ∷ map (λ p. toy (readying one_to_five p)) (1 ∷ 2 ∷ 3 ∷ [])) []

-- n 4: a block of site 3 that hears READY 42 of site 1, its next, which hears READY 43 of site 1, and its next, which hears READY 43 of site 2
unfoldable pub ready_of_one : Bytes
ready_of_one = block 3 0 (toy (readying three_sites 1) ∷ []) []

unfoldable pub other_of_one : Bytes
other_of_one = block 3 1 (toy ready_of_one ∷ toy (other_readying 1) ∷ []) []

unfoldable pub other_of_two : Bytes
other_of_two = block 3 2 (toy other_of_one ∷ toy (other_readying 2) ∷ []) []

-- n 4: a block of site 3, which has sent ECHO 43, that hears READY 42 of two sites
unfoldable pub after_third : Bytes
after_third = block 3 1 (toy third ∷ toy (readying three_sites 0) ∷ toy (readying three_sites 1) ∷ []) []

-- n 4: a block of site 3 that hears ECHO 43 of three sites
unfoldable pub other_readying_three : Bytes
other_readying_three = block 3 0 (map (λ p. toy (other_echoing p)) three_sites) []

-- n 4: a block of site 3, which has heard ECHO 42 of three sites, the owner's among them, that hears SEND 42
unfoldable pub after_readying_three : Bytes
after_readying_three = block 3 1 (toy readying_three ∷ toy first ∷ []) []

-- site 0 begins another branch, with a block that refers to its first and has another request
unfoldable pub on_first : Bytes
on_first = block 0 0 (toy first ∷ []) (request 0 43 ∷ [])

-- n 4: a block of site 3 that hears SEND 42, and ECHO 42 of three sites
unfoldable pub on_all : Bytes
on_all = block 3 0 (toy first ∷ map (λ p. toy (echoing p)) three_sites) []

-- site 0's block after the one that sent READY
unfoldable pub after_readying : Bytes
after_readying = block 0 3 (toy (readying three_sites 0) ∷ []) []

-- site 1 requests 43 in slot 1
unfoldable pub in_own_slot : Bytes
in_own_slot = block 1 0 [] (request 1 43 ∷ [])

-- n 1: another block of sequence 0 of the site
unfoldable pub aside : Bytes
aside = block 0 0 [] (mark ∷ [])

pub record ProcessCases : Type 0 where
  -- "If the block has a counted request v, its site is the owner and entry 0 is 0, it sends SEND v": at any sequence number
  pub later_request : Campaign (sites 4) 0 (silent making none ∷ asks_later making sends 42 ∷ [])
  -- the owner's request is sent whatever else was sent or heard: here it has sent ECHO 43, for its other branch, and heard it, before it requests 42
  pub request_after_echo : Campaign (sites 4) 0
      (fork making sends 43
      ∷ branching making echoes 43
      ∷ branching_on making none
      ∷ block 0 2 (toy branching_on ∷ []) (request 0 42 ∷ []) making sends 42
      ∷ [])
  -- "Supporters, for ECHO and READY each by itself": n 4, ECHO of two sites and READY of a third: no READY, no delivery
  pub echoes_and_ready : Campaign (sites 4) 0
      (echoed
      (readying three_sites 2 making readies 42
      ∷ block 3 0 (toy (echoing 0) ∷ toy (echoing 1) ∷ toy (readying three_sites 2) ∷ []) [] making none
      ∷ []))
  -- n 4, READY of one site, and a block later ECHO of two others: no READY; a block later the third ECHO, of the site that READY came from: READY
  pub ready_then_echoes : Campaign (sites 4) 0
      (echoed
      (readying three_sites 2 making readies 42
      ∷ ready_of_two making none
      ∷ echoes_of_others making none
      ∷ block 3 2 (toy echoes_of_others ∷ toy (echoing 2) ∷ []) [] making readies 42
      ∷ []))
  -- n 4, READY of two sites and ECHO of a third: READY, no delivery
  pub readies_and_echo : Campaign (sites 4) 0
      (echoed
      (readying three_sites 1 making readies 42
      ∷ readying three_sites 2 making readies 42
      ∷ block 3 0 (toy (echoing 0) ∷ toy (readying three_sites 1) ∷ toy (readying three_sites 2) ∷ []) [] making readies 42
      ∷ []))
  -- n 7, READY of three sites and ECHO of two others: READY, no delivery; a block later the site's own READY and ECHO of two more: no delivery
  pub readies_then_echoes : Campaign (sites 7) 0
      (echoed_by_five
      (readying one_to_five 1 making readies 42
      ∷ readying one_to_five 2 making readies 42
      ∷ readying one_to_five 3 making readies 42
      ∷ three_readies_two_echoes making readies 42
      ∷ block 6 1 (toy three_readies_two_echoes ∷ toy (echoing 1) ∷ toy (echoing 2) ∷ []) [] making none
      ∷ []))
  -- "READY v from p, none heard from p": a second READY of site 1, of another number, is not noted; the first stays noted, and with READY 42 of site
  -- 0 there are two supporters of 42
  pub other_ready : Campaign (sites 4) 0
      (echoed
      (readying three_sites 0 making readies 42
      ∷ readying three_sites 1 making readies 42
      ∷ fork making sends 43
      ∷ other_echoing 0 making echoes 43
      ∷ other_echoing 1 making echoes 43
      ∷ other_echoing 2 making echoes 43
      ∷ other_readying 1 making readies 43
      ∷ other_readying 2 making readies 43
      ∷ ready_of_one making none
      ∷ other_of_one making none
      ∷ other_of_two making none
      ∷ block 3 3 (toy other_of_two ∷ toy (readying three_sites 0) ∷ []) [] making readies 42
      ∷ []))
  -- one message brings READY and delivery: n 1, where one READY is enough for both
  pub ready_and_delivery : Campaign (sites 1) 0
      (chained 0 making sends 7
      ∷ chained 1 making echoes 7
      ∷ chained 2 making readies 7
      ∷ block 0 0 (toy (chained 2) ∷ []) (mark ∷ []) making readies_and_delivers 7
      ∷ [])
  -- "the messages made in the blocks directly referred to": a block of the same site that is not the parent is heard, with a parent and without
  pub own_other : Campaign (sites 1) 0
      (chained 0 making sends 7
      ∷ chained 1 making echoes 7
      ∷ aside making none
      ∷ block 0 1 (toy aside ∷ toy (chained 1) ∷ []) [] making readies 7
      ∷ block 0 0 (toy (chained 1) ∷ []) (mark ∷ []) making readies 7
      ∷ [])
  -- READY by ECHOs is for the number that has the ECHOs, whatever number the site's own ECHO was for
  pub ready_for_another : Campaign (sites 4) 0
      (first making sends 42
      ∷ fork making sends 43
      ∷ echoing 0 making echoes 42
      ∷ echoing 1 making echoes 42
      ∷ echoing 2 making echoes 42
      ∷ third making echoes 43
      ∷ block 3 1 (toy third ∷ map (λ p. toy (echoing p)) three_sites) [] making readies 42
      ∷ [])
  -- READY by READYs is for the number that has the READYs, whatever number the site's own ECHO was for; and that number is delivered
  pub delivered_for_another : Campaign (sites 4) 0
      (first making sends 42
      ∷ fork making sends 43
      ∷ echoing 0 making echoes 42
      ∷ echoing 1 making echoes 42
      ∷ echoing 2 making echoes 42
      ∷ readying three_sites 0 making readies 42
      ∷ readying three_sites 1 making readies 42
      ∷ third making echoes 43
      ∷ after_third making readies 42
      ∷ block 3 2 (toy after_third ∷ []) [] making delivers 42
      ∷ [])
  -- the number that has the READYs is delivered, whatever number the site's own READY was for
  pub other_delivered : Campaign (sites 4) 0
      (fork making sends 43
      ∷ other_echoing 0 making echoes 43
      ∷ other_echoing 1 making echoes 43
      ∷ other_echoing 2 making echoes 43
      ∷ other_readying_three making readies 43
      ∷ first making sends 42
      ∷ echoing 0 making echoes 42
      ∷ echoing 1 making echoes 42
      ∷ echoing 2 making echoes 42
      ∷ readying three_sites 0 making readies 42
      ∷ readying three_sites 1 making readies 42
      ∷ readying three_sites 2 making readies 42
      ∷ block 3 1 (toy other_readying_three ∷ map (λ p. toy (readying three_sites p)) three_sites) [] making delivers 42
      ∷ [])
  -- "SEND v from the owner, ECHO not sent: send ECHO v": though READY was sent before. The site's own READY, heard in this block, is the third
  pub echo_after_ready : Campaign (sites 4) 0
      (echoed
      (readying three_sites 0 making readies 42
      ∷ readying three_sites 1 making readies 42
      ∷ two_readies making readies 42
      ∷ block 3 1 (toy two_readies ∷ toy first ∷ []) [] making with_delivered 42 (echoes 42)
      ∷ []))
  -- a SEND is answered with ECHO, though the number was delivered before
  pub echo_after_delivery : Campaign (sites 4) 0
      (echoed
      (readying three_sites 0 making readies 42
      ∷ readying three_sites 1 making readies 42
      ∷ readying three_sites 2 making readies 42
      ∷ three_readies making readies_and_delivers 42
      ∷ block 3 1 (toy three_readies ∷ toy first ∷ []) [] making echoes 42
      ∷ []))
  -- a SEND is answered with ECHO, though ECHOs were heard before, the owner's too. The third ECHO brings READY, and a fourth, a block later, none:
  -- "and READY isn't sent"
  pub echo_after_echoes : Campaign (sites 4) 0
      (echoed
      (readying_three making readies 42
      ∷ after_readying_three making echoes 42
      ∷ block 3 2 (toy after_readying_three ∷ []) [] making none
      ∷ []))
  -- "entries 0 to 35 of the parent's record": a block of another site with the sequence number one less, though listed first, is no parent
  pub parent_of_site : Campaign (sites 4) 0
      (silent making none
      ∷ asks_later making sends 42
      ∷ hears_later making echoes 42
      ∷ idle making none
      ∷ block 1 1 (toy hears_later ∷ toy idle ∷ toy asks_later ∷ []) [] making echoes 42
      ∷ [])
  -- "all 0 without a parent": a block of sequence 0 that refers to a block of its own site has no parent, and sends its own SEND. Where a block
  -- made a SEND and an ECHO, both are heard
  pub without_parent : Campaign (sites 4) 0
      (first making sends 42
      ∷ on_first making with_echo 42 (sends 43)
      ∷ block 1 0 (toy on_first ∷ []) [] making echoes 43
      ∷ [])
  -- where a block made an ECHO and a READY, both are heard: the ECHO is the third that site 1 hears, the READY the second that site 2 hears
  pub both_heard : Campaign (sites 4) 0
      (echoed
      (on_all making with_ready 42 (echoes 42)
      ∷ readying three_sites 0 making readies 42
      ∷ block 1 1 (toy (echoing 1) ∷ toy (echoing 2) ∷ toy on_all ∷ []) [] making readies 42
      ∷ block 2 1 (toy (echoing 2) ∷ toy (readying three_sites 0) ∷ toy on_all ∷ []) [] making readies 42
      ∷ []))
  -- "the messages made in the blocks directly referred to": what a site sent in earlier blocks is not among them
  pub sent_before : Campaign (sites 4) 0
      (echoed
      (readying three_sites 0 making readies 42
      ∷ readying three_sites 1 making readies 42
      ∷ after_readying making none
      ∷ block 3 0 (toy after_readying ∷ toy (readying three_sites 1) ∷ []) [] making none
      ∷ []))
  -- a SEND counts if it is of the slot's own owner: site 1 in slot 1
  pub owner_of_slot : Campaign shared_out 1 (in_own_slot making sends 43 ∷ block 2 0 (toy in_own_slot ∷ []) [] making echoes 43 ∷ [])
