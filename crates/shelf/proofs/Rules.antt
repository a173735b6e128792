-- The rules are kept by a block that is put on the shelf where there is a place, and by one that is taken out; and a campaign that holds
-- fewer than 2 places has a place. Assumes nothing.
use mathlib.Core.Path.{◌≡◌, refl, sym, ap, ◌∙◌}
use mathlib.Core.Bool.{true, false, cond, not, ◌&&◌}
use mathlib.Core.List.{List, [], ◌∷◌, ◌++◌, append-nil}
use Prim.Native.Nat.{ℕ, suc, ◌+◌, ◌-◌, ◌≤◌, ◌<◌}
use native.Mathlib.Omega.{arith}
use lib.Dec.{eqb, leb, ltb}
use lib.ListN.{length, length-append}
use borrow.Author.Tests.{eqb-true, eq-eqb, ne_eqb, leb-true, le-leb, ltb-true, lt-ltb, not-true}
use Rattle.base.specs.Bytes.{Bytes, same_bytes}
use Rattle.base.specs.Search.{all_below}
use Rattle.base.specs.Count.{sum_below}
use Rattle.base.specs.List.{some_in, count_in}
use Rattle.base.proofs.Tests.{by_test, true_not_false, not_true_false, and_left, and_right, or_left, or_right}
use Rattle.base.proofs.Search.{all_true, all_true_at}
use Rattle.base.proofs.Sum.{sum_same, sum_without}
use Rattle.base.proofs.Selection.{count_in_mid}
use Rattle.base.proofs.Bytes.{same_equal, equal_same}
use Rattle.shelf.specs.Layout.{Waiting}
use Rattle.shelf.specs.Rules.{campaign_count, max_campaign, reserved, max_share, is_for, holds, free, lack, all_lack, others_lack, has_place, is_same, waits, accepts, each_sound, shared}
use Rattle.shelf.proofs.InForm.{RulesHold}

-- ---- the shares, as facts

pub record Fair (ws : List Waiting) : Type 0 where
  pub shares : (d : ℕ) → d < campaign_count → holds d ws ≤ max_share
  pub covered : all_lack ws ≤ free ws

pub fair_of : (ws : List Waiting) → shared ws ≡ true → Fair ws
unfolding shared
fair_of ws e =
    let each = all_below (λ c. leb (holds c ws) max_share) campaign_count in
    let cover = leb (all_lack ws) (free ws) in
    record {
      shares = λ d h. leb-true (holds d ws) max_share (all_true_at (λ c. leb (holds c ws) max_share) campaign_count (and_left each cover e) d h);
      covered = leb-true (all_lack ws) (free ws) (and_right each cover e);
    }

of_fair : (ws : List Waiting) → Fair ws → shared ws ≡ true
unfolding shared
of_fair ws f =
    rw (all_true (λ c. leb (holds c ws) max_share) campaign_count (λ d h. le-leb (holds d ws) max_share (f.shares d h)), le-leb (all_lack ws) (free ws) f.covered)

-- what the others lack and what it lacks is what all lack
pub all_lack_lem : (c : ℕ) (ws : List Waiting) → c < campaign_count → all_lack ws ≡ others_lack c ws + lack c ws
all_lack_lem c ws h = sum_without (λ d. lack d ws) c campaign_count h

-- one that stands anywhere
holds_mid : (d : ℕ) (us : List Waiting) (w : Waiting) (vs : List Waiting) → holds d (us ++ (w ∷ vs)) ≡ cond (eqb w.campaign d) 1 0 + holds d (us ++ vs)
unfolding holds
holds_mid d us w vs = count_in_mid (is_for d) us w vs

-- what the others lack does not change by it
others_mid : (us : List Waiting) (w : Waiting) (vs : List Waiting) → others_lack w.campaign (us ++ (w ∷ vs)) ≡ others_lack w.campaign (us ++ vs)
others_mid us w vs =
    sum_same (λ d. cond (eqb d w.campaign) 0 (lack d (us ++ (w ∷ vs)))) (λ d. cond (eqb d w.campaign) 0 (lack d (us ++ vs))) campaign_count
    (λ d h.
    by_test (eqb d w.campaign)
    (λ y. rw y)
    (λ n.
    let o : eqb w.campaign d ≡ false = ne_eqb w.campaign d (λ q. true_not_false (eq-eqb d w.campaign (sym q)) n) in
    let e : holds d (us ++ (w ∷ vs)) ≡ holds d (us ++ vs) = holds_mid d us w vs ∙ rw o (omega arith) in
    rw n (ap (λ (x : ℕ). reserved - x) e)))

length_mid : (us : List Waiting) (w : Waiting) (vs : List Waiting) → length (us ++ (w ∷ vs)) ≡ suc (length (us ++ vs))
length_mid us w vs = omega (arith, length-append us (w ∷ vs), length-append us vs)

-- ---- sound blocks

sound_here : (us : List Waiting) (w : Waiting) (vs : List Waiting) → each_sound (us ++ (w ∷ vs)) ≡ true → w.campaign ≤ max_campaign
unfolding each_sound
sound_here [] w vs e =
    let rest = accepts w.block && not (waits w.campaign w.block vs) in
    leb-true w.campaign max_campaign (and_left (leb w.campaign max_campaign) rest (and_left (leb w.campaign max_campaign && rest) (each_sound vs) e))
sound_here (u ∷ us) w vs e =
    sound_here us w vs (and_right (leb u.campaign max_campaign && (accepts u.block && not (waits u.campaign u.block (us ++ (w ∷ vs))))) (each_sound (us ++ (w ∷ vs))) e)

waits_skip : (c : ℕ) (b : Bytes) (us : List Waiting) (w : Waiting) (vs : List Waiting) → waits c b (us ++ (w ∷ vs)) ≡ false → waits c b (us ++ vs) ≡ false
unfolding waits some_in
waits_skip c b [] w vs e = or_right (is_same c b w) (some_in (is_same c b) vs) e
waits_skip c b (u ∷ us) w vs e =
    rw (or_left (is_same c b u) (some_in (is_same c b) (us ++ (w ∷ vs))) e)
    (waits_skip c b us w vs (or_right (is_same c b u) (some_in (is_same c b) (us ++ (w ∷ vs))) e))

sound_skip : (us : List Waiting) (w : Waiting) (vs : List Waiting) → each_sound (us ++ (w ∷ vs)) ≡ true → each_sound (us ++ vs) ≡ true
unfolding each_sound
sound_skip [] w vs e = and_right (leb w.campaign max_campaign && (accepts w.block && not (waits w.campaign w.block vs))) (each_sound vs) e
sound_skip (u ∷ us) w vs e =
    let new = not (waits u.campaign u.block (us ++ (w ∷ vs))) in
    let here = and_left (leb u.campaign max_campaign && (accepts u.block && new)) (each_sound (us ++ (w ∷ vs))) e in
    let later = and_right (leb u.campaign max_campaign && (accepts u.block && new)) (each_sound (us ++ (w ∷ vs))) e in
    let low = and_left (leb u.campaign max_campaign) (accepts u.block && new) here in
    let rest = and_right (leb u.campaign max_campaign) (accepts u.block && new) here in
    let n = waits_skip u.campaign u.block us w vs (not-true _ (and_right (accepts u.block) new rest)) in
    rw (low, and_left (accepts u.block) new rest, n, sound_skip us w vs later)

-- it is the same the other way round
same_other : (c d : ℕ) (b e : Bytes) → is_same c b (record { campaign = d; block = e }) ≡ false → is_same d e (record { campaign = c; block = b }) ≡ false
same_other c d b e n =
    not_true_false (is_same d e (record { campaign = c; block = b }))
    (λ y.
    let p = eqb-true c d (and_left (eqb c d) (same_bytes b e) y) in
    let q = same_equal b e (and_right (eqb c d) (same_bytes b e) y) in
    true_not_false (rw (eq-eqb d c (sym p), equal_same e b (sym q)) refl) n)

waits_last : (c : ℕ) (b : Bytes) (us : List Waiting) (w : Waiting) → waits c b us ≡ false → is_same c b w ≡ false → waits c b (us ++ (w ∷ [])) ≡ false
unfolding waits some_in
waits_last c b [] w e n = rw n
waits_last c b (u ∷ us) w e n =
    rw (or_left (is_same c b u) (some_in (is_same c b) us) e) (waits_last c b us w (or_right (is_same c b u) (some_in (is_same c b) us) e) n)

sound_last : (us : List Waiting) (w : Waiting) → each_sound us ≡ true → w.campaign ≤ max_campaign → accepts w.block ≡ true → waits w.campaign w.block us ≡ false
    → each_sound (us ++ (w ∷ [])) ≡ true
unfolding each_sound waits some_in
sound_last [] w e h y n = rw (le-leb w.campaign max_campaign h, y)
sound_last (u ∷ us) w e h y n =
    let new = not (waits u.campaign u.block us) in
    let here = and_left (leb u.campaign max_campaign && (accepts u.block && new)) (each_sound us) e in
    let later = and_right (leb u.campaign max_campaign && (accepts u.block && new)) (each_sound us) e in
    let low = and_left (leb u.campaign max_campaign) (accepts u.block && new) here in
    let rest = and_right (leb u.campaign max_campaign) (accepts u.block && new) here in
    let other = or_left (is_same w.campaign w.block u) (some_in (is_same w.campaign w.block) us) n in
    let m = waits_last u.campaign u.block us w (not-true _ (and_right (accepts u.block) new rest)) (same_other w.campaign u.campaign w.block u.block other) in
    rw (low, and_left (accepts u.block) new rest, m, sound_last us w later h y (or_right (is_same w.campaign w.block u) (some_in (is_same w.campaign w.block) us) n))

-- ---- the rules are kept

module _ (us : List Waiting) (w : Waiting) (vs : List Waiting) where
  -- how many places, and what is lacked, with w and without it
  mid_lack : w.campaign < campaign_count → all_lack (us ++ (w ∷ vs)) ≡ others_lack w.campaign (us ++ vs) + lack w.campaign (us ++ (w ∷ vs))
  mid_lack h = all_lack_lem w.campaign (us ++ (w ∷ vs)) h ∙ ap (λ (x : ℕ). x + lack w.campaign (us ++ (w ∷ vs))) (others_mid us w vs)

  mid_own : holds w.campaign (us ++ (w ∷ vs)) ≡ suc (holds w.campaign (us ++ vs))
  mid_own = holds_mid w.campaign us w vs ∙ rw (eq-eqb w.campaign w.campaign refl) (omega arith)

  mid_at_least : (d : ℕ) → holds d (us ++ vs) ≤ holds d (us ++ (w ∷ vs))
  mid_at_least d = omega (arith, holds_mid d us w vs)

  -- it is taken out
  pub ruled_without : RulesHold (us ++ (w ∷ vs)) → RulesHold (us ++ vs)
  ruled_without r =
      let f = fair_of (us ++ (w ∷ vs)) r.fair in
      let h = sound_here us w vs r.sound in
      let n = length_mid us w vs in
      record {
        few = omega (arith, r.few);
        sound = sound_skip us w vs r.sound;
        fair = of_fair (us ++ vs)
            (record {
              shares = λ d k. omega (arith, mid_at_least d, f.shares d k);
              covered = omega (arith, f.covered, mid_lack (omega arith), mid_own, all_lack_lem w.campaign (us ++ vs) (omega arith), r.few);
            });
      }

-- where there is a place, one is free
pub place_free : (c : ℕ) (ws : List Waiting) → has_place c ws ≡ true → (holds c ws < max_share) × (others_lack c ws < free ws)
unfolding has_place
place_free c ws e =
    let here = ltb (holds c ws) max_share in
    let others = ltb (others_lack c ws) (free ws) in
    (ltb-true (holds c ws) max_share (and_left here others e), ltb-true (others_lack c ws) (free ws) (and_right here others e))

-- one more, where there is a place
module _ (ws : List Waiting) (w : Waiting) where
  end_holds : (d : ℕ) → holds d (ws ++ (w ∷ [])) ≡ cond (eqb w.campaign d) 1 0 + holds d ws
  end_holds d = holds_mid d ws w [] ∙ ap (λ (l : List Waiting). cond (eqb w.campaign d) 1 0 + holds d l) (append-nil ws)

  end_shares : (d : ℕ) → holds d ws ≤ max_share → holds w.campaign ws < max_share → holds d (ws ++ (w ∷ [])) ≤ max_share
  end_shares d h k =
      by_test (eqb w.campaign d)
      (λ y. let e = end_holds d in let q = eqb-true w.campaign d y in let k' : holds d ws < max_share = rw q at k in rw (end_holds d, y) (omega arith))
      (λ n. rw (end_holds d, n) (omega arith))

  pub ruled_with : RulesHold ws → w.campaign ≤ max_campaign → accepts w.block ≡ true → waits w.campaign w.block ws ≡ false → has_place w.campaign ws ≡ true
      → RulesHold (ws ++ (w ∷ []))
  ruled_with r h y n p =
      let f = fair_of ws r.fair in
      let q = place_free w.campaign ws p in
      let l = length-append ws (w ∷ []) in
      let e : ws ++ [] ≡ ws = append-nil ws in
      let own : holds w.campaign (ws ++ (w ∷ [])) ≡ suc (holds w.campaign ws) = mid_own ws w [] ∙ ap (λ (x : List Waiting). suc (holds w.campaign x)) e in
      let all : all_lack (ws ++ (w ∷ [])) ≡ others_lack w.campaign ws + lack w.campaign (ws ++ (w ∷ [])) =
      mid_lack ws w [] (omega arith) ∙ ap (λ (x : List Waiting). others_lack w.campaign x + lack w.campaign (ws ++ (w ∷ []))) e in
      record {
        few = omega (arith, q.1);
        sound = sound_last ws w r.sound h y n;
        fair = of_fair (ws ++ (w ∷ []))
            (record {
              shares = λ d k. end_shares d (f.shares d k) q.0;
              covered = omega (arith, f.covered, all, own, all_lack_lem w.campaign ws (omega arith), q.1);
            });
      }

-- "A campaign may always hold 2 places"
pub place_for_two : (c : ℕ) (ws : List Waiting) → c < campaign_count → RulesHold ws → holds c ws < reserved → has_place c ws ≡ true
unfolding has_place
place_for_two c ws h r k =
    let f = fair_of ws r.fair in
    rw (lt-ltb (holds c ws) max_share (omega arith), lt-ltb (others_lack c ws) (free ws) (omega (arith, f.covered, all_lack_lem c ws h)))

-- nothing waits
pub ruled_empty : RulesHold []
unfolding each_sound shared holds count_in sum_below
ruled_empty = record { few = omega arith; sound = refl; fair = of_fair [] (record { shares = λ d h. omega arith; covered = omega arith }) }
