-- Document 01, "Interpreting a place" and "What is turned down": "Checks 2, 12, 13, 14, 15". The digest is the toy one.
use Rattle.std.specs.Prelude.{◌≡◌, [], ◌∷◌, ℕ, ◌+◌, ◌-◌, replicate}
use Rattle.base.specs.Bytes.{Bytes}
use Rattle.answer.specs.Checks.{refused}
use Rattle.table.specs.Layout.{row_start, site_offset}
use Rattle.records.specs.Layout.{buffer_size}
use Rattle.run.specs.Ledger.Call.{interpret}
use Rattle.run.specs.Run.{Site, site_answers}
use Rattle.cases.specs.Toy.{toy}
use Rattle.cases.specs.Run.{good, placed, done, answers, ◌giving◌, Session}
use Rattle.cases.specs.Blocks.{sites, fresh, unlawful, first, fork, second, third, fourth, four}
use Rattle.cases.specs.Form.{changed, with_mark_at}

-- a table, with a record buffer of `size` zeros
abbrev pub lent : Bytes → ℕ → Site
lent t size = record { table = t; records = replicate size 0 }

-- the order of the checks: of two calls the first has both causes and gets the earlier number; in the second only the earlier cause is mended,
-- and it gets the later number.
--
-- `four` holds two forks of site 0 at places 0 and 1, a block of site 3 that refers to place 1 at place 2, and site 3's next block, which refers to
-- places 2 and 0, in this order, at place 3.
pub record InterpretationOrderCases : Type 0 where
  -- 2, 12: a buffer that is one number short, with a table of three sites, then with a table of four
  pub form_before_size :
      (site_answers toy (lent unlawful (buffer_size - 1)) (interpret 0 ∷ []) ≡ refused 2 0 ∷ [])
      × (site_answers toy (lent fresh (buffer_size - 1)) (interpret 0 ∷ []) ≡ refused 12 0 ∷ [])
  -- 2, 13: place 0 of a table that holds nothing
  pub form_before_place :
      (answers toy unlawful (interpret 0 ∷ []) ≡ refused 2 0 ∷ []) × (answers toy fresh (interpret 0 ∷ []) ≡ refused 13 0 ∷ [])
  -- 2, 14: a marked place, in a table where the place that it refers to is not marked, then in one where it is
  pub form_before_mark :
      (answers toy (with_mark_at (with_mark_at four 0 1) 2 1) (interpret 2 ∷ []) ≡ refused 2 0 ∷ [])
      × (answers toy (with_mark_at (with_mark_at four 1 1) 2 1) (interpret 2 ∷ []) ≡ refused 14 0 ∷ [])
  -- 2, 15: a place that refers to a place that is not marked, in a table with a block of site 4, then in a table without
  pub form_before_reference :
      (answers toy (changed four (row_start 1 + site_offset) 4) (interpret 2 ∷ []) ≡ refused 2 0 ∷ [])
      × (answers toy four (interpret 2 ∷ []) ≡ refused 15 1 ∷ [])
  -- 12, 13: place 0 of a table that holds nothing, with a buffer that is one number short, then with a whole buffer
  pub size_before_place :
      (site_answers toy (lent fresh (buffer_size - 1)) (interpret 0 ∷ []) ≡ refused 12 0 ∷ [])
      × (site_answers toy (lent fresh buffer_size) (interpret 0 ∷ []) ≡ refused 13 0 ∷ [])
  -- 12, 14: a marked place, with a buffer that is one number short, then with a whole buffer
  pub size_before_mark :
      (site_answers toy (lent (with_mark_at four 1 1) (buffer_size - 1)) (interpret 1 ∷ []) ≡ refused 12 0 ∷ [])
      × (site_answers toy (lent (with_mark_at four 1 1) buffer_size) (interpret 1 ∷ []) ≡ refused 14 0 ∷ [])
  -- 12, 15: a place whose reference is not marked, with a buffer that is one number short, then with a whole buffer
  pub size_before_reference :
      (site_answers toy (lent four (buffer_size - 1)) (interpret 2 ∷ []) ≡ refused 12 0 ∷ [])
      × (site_answers toy (lent four buffer_size) (interpret 2 ∷ []) ≡ refused 15 1 ∷ [])
  -- 13, 14: no call has both causes, since a place from the count on has no mark. The place after an interpreted place gets 13, and the interpreted
  -- place 14
  pub place_or_mark : Session (sites 4)
      (good first giving placed 0
      ∷ interpret 0 giving done
      ∷ interpret 1 giving refused 13 0
      ∷ interpret 0 giving refused 14 0
      ∷ [])
  -- 14, 15: no call has both causes, since an interpreted place has all its references interpreted. A place gets 15 until the place that it refers to
  -- is interpreted, and 14 once it is interpreted itself
  pub mark_or_reference : Session (sites 4)
      (good first giving placed 0
      ∷ good second giving placed 1
      ∷ interpret 1 giving refused 15 0
      ∷ interpret 0 giving done
      ∷ interpret 1 giving done
      ∷ interpret 1 giving refused 14 0
      ∷ [])

-- the value beside a number
pub record InterpretationValueCases : Type 0 where
  -- 12: "record buffer not of 20,480 numbers": one number too many, and no number
  pub size_above : site_answers toy (lent fresh (buffer_size + 1)) (interpret 0 ∷ []) ≡ refused 12 0 ∷ []
  pub size_none : site_answers toy (lent fresh 0) (interpret 0 ∷ []) ≡ refused 12 0 ∷ []
  -- 15: "a direct reference not interpreted", with the lowest such place
  pub lowest_reference : Session (sites 4)
      (good first giving placed 0
      ∷ good fork giving placed 1
      ∷ good third giving placed 2
      ∷ good fourth giving placed 3
      ∷ interpret 3 giving refused 15 0
      ∷ interpret 0 giving done
      ∷ interpret 3 giving refused 15 2
      ∷ interpret 2 giving refused 15 1
      ∷ interpret 1 giving done
      ∷ interpret 3 giving refused 15 2
      ∷ interpret 2 giving done
      ∷ interpret 3 giving done
      ∷ [])
