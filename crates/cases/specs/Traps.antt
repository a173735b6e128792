-- Document 01, "Small skies to try", its traps, and the order in which messages are taken: in each row the trap would give another result.
-- n 4, owner 0. The digest is the toy one.
--
-- "hearing one's own message in the block that makes it" is shut out by `chain` and `readies_heard` of specs/Starred.antt: the first block of the
-- chain would make SEND, ECHO, READY and delivery, and the third READY would be the site's own.
use Rattle.std.specs.Prelude.{[], ◌∷◌, map, ℕ}
use Rattle.base.specs.Bytes.{Bytes}
use Rattle.setup.specs.Setup.{Setup}
use Rattle.block.specs.declared.Request.{Request}
use Rattle.broadcast.specs.Record.{none}
use Rattle.cases.specs.Toy.{toy, request, block}
use Rattle.cases.specs.Run.{Campaign, ◌making◌, sends, echoes, readies}
use Rattle.cases.specs.Blocks.{sites, first, fork, both, later, three_sites, echoing, readying, echoed}
use Rattle.cases.specs.Starred.{two_echoes}

-- ---- forks: a request in slot 1 gives a second block of one sequence number another toy digest

abbrev pub mark : Request
mark = request 1 5

-- site 1 forks: it builds a second block that hears the first block's SEND, and a second block that hears the ECHOs of three sites
unfoldable pub echoing_twin : Bytes
echoing_twin = block 1 0 (toy first ∷ []) (mark ∷ [])

unfoldable pub readying_twin : Bytes
readying_twin = block 1 1 (map (λ p. toy (echoing p)) three_sites) (mark ∷ [])

-- the block of site p that hears the SEND of the fork, and its block that hears the ECHOs of three such blocks
unfoldable pub other_echoing : ℕ → Bytes
other_echoing p = block p (later p 0) (toy fork ∷ []) (mark ∷ [])

unfoldable pub other_readying : ℕ → Bytes
other_readying p = block p (later p 1) (map (λ q. toy (other_echoing q)) three_sites) (mark ∷ [])

-- ---- distinct senders

-- a block of site 3 that hears three ECHOs of two sites
unfoldable pub twin_echoes : Bytes
twin_echoes = block 3 0 (toy (echoing 1) ∷ toy echoing_twin ∷ toy (echoing 2) ∷ []) []

-- a block of site 3 that hears a READY of site 1, and its next, which hears a second READY of site 1
unfoldable pub one_sender : Bytes
one_sender = block 3 0 (toy (readying three_sites 1) ∷ []) []

unfoldable pub same_sender : Bytes
same_sender = block 3 1 (toy one_sender ∷ toy readying_twin ∷ []) []

-- ---- state comes from the parent

-- a block of site 1 that refers to nothing; then two blocks of site 1 with one sequence number that refer to it and to the first block, the second of
-- them also to the other
unfoldable pub idle : Bytes
idle = block 1 0 [] []

unfoldable pub after_idle : Bytes
after_idle = block 1 1 (toy idle ∷ toy first ∷ []) []

unfoldable pub beside_idle : Bytes
beside_idle = block 1 1 (toy after_idle ∷ toy idle ∷ toy first ∷ []) []

-- ---- lower numbers and lower senders first

-- a block of site 2 that refers to both forks, the fork with 43 listed first
unfoldable pub both_reversed : Bytes
both_reversed = block 2 0 (toy fork ∷ toy first ∷ []) []

-- a block of site 3 that hears two ECHOs of site 1, the higher number listed first, and the ECHOs of sites 0 and 2, which have the higher number
unfoldable pub mixed_echoes : Bytes
mixed_echoes = block 3 0 (toy (other_echoing 1) ∷ toy (echoing 1) ∷ toy (other_echoing 0) ∷ toy (other_echoing 2) ∷ []) []

-- a block of site 3 that hears three ECHOs of 42, the lower number
unfoldable pub readying_three : Bytes
readying_three = block 3 0 (map (λ p. toy (echoing p)) three_sites) []

pub record TrapCases : Type 0 where
  -- "counting messages in place of distinct senders": two ECHOs of one site count once
  pub distinct_echoes : Campaign (sites 4) 0
      (first making sends 42
      ∷ echoing 0 making echoes 42
      ∷ echoing 1 making echoes 42
      ∷ echoing_twin making echoes 42
      ∷ echoing 2 making echoes 42
      ∷ twin_echoes making none
      ∷ block 3 1 (toy twin_echoes ∷ toy (echoing 0) ∷ []) [] making readies 42
      ∷ [])
  -- "counting messages in place of distinct senders": two READYs of one site count once, also where they are heard in two blocks
  pub distinct_readies : Campaign (sites 4) 0
      (echoed
      (readying three_sites 1 making readies 42
      ∷ readying_twin making readies 42
      ∷ readying three_sites 2 making readies 42
      ∷ one_sender making none
      ∷ same_sender making none
      ∷ block 3 2 (toy same_sender ∷ toy (readying three_sites 2) ∷ []) [] making readies 42
      ∷ []))
  -- "hearing messages of all ancestors": the SEND is two references away
  pub direct_only : Campaign (sites 4) 0
      (first making sends 42
      ∷ echoing 1 making echoes 42
      ∷ block 2 0 (toy (echoing 1) ∷ []) [] making none
      ∷ [])
  -- "letting a site's fork share the state of the other branch (state comes from the parent only)": each branch sends its ECHO, also the branch that
  -- refers to the other
  pub parent_only : Campaign (sites 4) 0
      (first making sends 42
      ∷ echoing 1 making echoes 42
      ∷ idle making none
      ∷ after_idle making echoes 42
      ∷ beside_idle making echoes 42
      ∷ [])
  -- two branches do not share what they heard: one heard two ECHOs, the other a third, and neither sends READY
  pub heard_in_branch : Campaign (sites 4) 0
      (echoed
      (two_echoes making none
      ∷ block 3 0 (toy (echoing 2) ∷ []) [] making none
      ∷ []))
  -- "taking messages in arrival order": of a site's two SENDs the lower number is taken, in whatever order they arrive or are listed
  pub lower_send_first : Campaign (sites 4) 0
      (fork making sends 43
      ∷ first making sends 42
      ∷ both making echoes 42
      ∷ both_reversed making echoes 42
      ∷ [])
  -- of a site's two ECHOs the lower number is taken: so 43 has two supporters, not three, and no READY is sent
  pub lower_echo_first : Campaign (sites 4) 0
      (fork making sends 43
      ∷ other_echoing 1 making echoes 43
      ∷ other_echoing 0 making echoes 43
      ∷ other_echoing 2 making echoes 43
      ∷ first making sends 42
      ∷ echoing 1 making echoes 42
      ∷ mixed_echoes making none
      ∷ [])
  -- "then lower sender": READY 42 from sites 2 and 3 arrives first and is listed first, READY 43 from sites 0 and 1 is taken first
  pub lower_sender_first : Campaign (sites 4) 0
      (echoed
      (readying three_sites 2 making readies 42
      ∷ readying_three making readies 42
      ∷ fork making sends 43
      ∷ other_echoing 0 making echoes 43
      ∷ other_echoing 1 making echoes 43
      ∷ other_echoing 2 making echoes 43
      ∷ other_readying 0 making readies 43
      ∷ other_readying 1 making readies 43
      ∷ block 3 0 (toy (readying three_sites 2) ∷ toy readying_three ∷ toy (other_readying 0) ∷ toy (other_readying 1) ∷ []) [] making readies 43
      ∷ []))
  -- "ECHO before READY": READY 43 from two sites arrives first and is listed first, three ECHOs of 42 are taken first
  pub echo_before_ready : Campaign (sites 4) 0
      (fork making sends 43
      ∷ other_echoing 0 making echoes 43
      ∷ other_echoing 1 making echoes 43
      ∷ other_echoing 2 making echoes 43
      ∷ other_readying 0 making readies 43
      ∷ other_readying 1 making readies 43
      ∷ first making sends 42
      ∷ echoing 0 making echoes 42
      ∷ echoing 1 making echoes 42
      ∷ echoing 2 making echoes 42
      ∷ block 3 0 (toy (other_readying 0) ∷ toy (other_readying 1) ∷ map (λ p. toy (echoing p)) three_sites) [] making readies 42
      ∷ [])

-- ---- one slot

-- the setup of four sites in which site k owns slots k and k + 4
abbrev pub shared_out : Setup
shared_out = record { sites = 4; owners = 0 ∷ 1 ∷ 2 ∷ 3 ∷ 0 ∷ 1 ∷ 2 ∷ 3 ∷ [] }

-- a block of site 1 that requests 42 in slot 0 and 43 in slot 1
unfoldable pub two_slots : Bytes
two_slots = block 1 0 [] (request 0 42 ∷ request 1 43 ∷ [])

pub record SlotCases : Type 0 where
  -- each slot has its owner: of site 1's two requests only the one in slot 1, which site 1 owns, is sent
  pub not_owned : Campaign shared_out 0 (two_slots making none ∷ [])
  pub owned : Campaign shared_out 1 (two_slots making sends 43 ∷ [])
  -- "SEND v from the owner, ECHO not sent": a second SEND, heard a block later, brings no second ECHO
  pub echo_once : Campaign (sites 4) 0
      (first making sends 42
      ∷ fork making sends 43
      ∷ echoing 1 making echoes 42
      ∷ block 1 1 (toy (echoing 1) ∷ toy fork ∷ []) [] making none
      ∷ [])
