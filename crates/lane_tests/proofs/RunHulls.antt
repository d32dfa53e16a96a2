-- The hulls of runs: how they grow with the boxes, and that a rectangle that misses one misses its run.
use Rattle.std.proofs.Common.{◌≡◌, ◌≢◌, ℕ, zero, suc, ◌+◌, ◌-◌, ◌*◌, ◌/◌, ◌<◌, ◌≤◌, Bool, true, false, List, [], ◌∷◌, ◌++◌, length, get_or, map, slice_set, refl, sym, ap, ◌∙◌, subst, arith, inl, inr, ℤ}
use Rattle.std.specs.Prelude.{◌↔◌, ◌≤ℤ◌, IsTrue}
use Rattle.std.specs.Int.{int_min, int_max}
use Rattle.std.proofs.lemmas.Int.{int_max_is, int_min_is}
use Rattle.geom.proofs.Integers.{linear}
use Rattle.std.proofs.lemmas.Bool.{cases_Bool, cases_lt}
use Rattle.std.proofs.lemmas.List.{get_or-map, get_or-set_other, get_or-set_same, get_or_append_left, length-append, length-map, length-set, map-set}
use Rattle.std.proofs.Math.Seq.{get_or-append_seam}
use Rattle.geom.specs.Box.{ShareAPoint}
use Rattle.geom.specs.declared.rect.Rect.{Rect}
use Rattle.lane_tests.specs.Columns.{AreColumns, Ends, corners, nowhere, pair_at, pairs_of, passing, touches}
use Rattle.lane_tests.specs.Hulls.{AreHulls, Covers, HasHeld, hull_at}
use Rattle.lane_tests.proofs.PairLists.{get_or-pairs_of, length-pairs_of}
use Rattle.geom.proofs.Tests.{le_told, le_yes}
use Rattle.geom.proofs.Numbers.{itself, from_same, le_le}
use Rattle.lane_tests.proofs.Meeting.{all_four, four_of, share_from}

covers_itself : (a : Ends) → Covers a a
covers_itself a = record { left = itself a.0.x; bottom = itself a.0.y; right = itself a.1.x; top = itself a.1.y }

-- ---- a hull that is widened by a box
min_first : (a b c r : ℤ) → r ≡ int_min (int_min a b) c → r ≤ℤ a
min_first a b c r e = let m : int_min a b ≤ℤ a = omega (arith, linear, int_min_is a b) in let n : int_min (int_min a b) c ≤ℤ int_min a b = omega (arith, linear, int_min_is (int_min a b) c) in le_le _ _ _ (le_le _ _ _ (from_same _ _ e) n) m

min_second : (a b c r : ℤ) → r ≡ int_min (int_min a b) c → r ≤ℤ b
min_second a b c r e = let m : int_min a b ≤ℤ b = omega (arith, linear, int_min_is a b) in let n : int_min (int_min a b) c ≤ℤ int_min a b = omega (arith, linear, int_min_is (int_min a b) c) in le_le _ _ _ (le_le _ _ _ (from_same _ _ e) n) m

max_first : (a b c r : ℤ) → r ≡ int_max (int_max a b) c → a ≤ℤ r
max_first a b c r e = let m : a ≤ℤ int_max a b = omega (arith, linear, int_max_is a b) in let n : int_max a b ≤ℤ int_max (int_max a b) c = omega (arith, linear, int_max_is (int_max a b) c) in le_le _ _ _ m (le_le _ _ _ n (from_same _ _ (sym e)))

max_third : (a b c r : ℤ) → r ≡ int_max (int_max a b) c → c ≤ℤ r
max_third a b c r e = let n : c ≤ℤ int_max (int_max a b) c = omega (arith, linear, int_max_is (int_max a b) c) in le_le _ _ _ n (from_same _ _ (sym e))

-- the least box that has a hull and both corners of a box
pub record IsWidened (hull rect wider : Rect) : Type 0 where
  pub left : wider.lo.x ≡ int_min (int_min hull.lo.x rect.lo.x) rect.hi.x
  pub bottom : wider.lo.y ≡ int_min (int_min hull.lo.y rect.lo.y) rect.hi.y
  pub right : wider.hi.x ≡ int_max (int_max hull.hi.x rect.lo.x) rect.hi.x
  pub top : wider.hi.y ≡ int_max (int_max hull.hi.y rect.lo.y) rect.hi.y

covers_hull : (hull rect wider : Rect) → IsWidened hull rect wider → Covers (corners wider) (corners hull)
covers_hull hull rect wider w = record { left = min_first _ _ _ _ w.left; bottom = min_first _ _ _ _ w.bottom; right = max_first _ _ _ _ w.right; top = max_first _ _ _ _ w.top }

covers_box : (hull rect wider : Rect) → IsWidened hull rect wider → Covers (corners wider) (corners rect)
covers_box hull rect wider w = record {
  left = min_second hull.lo.x rect.lo.x rect.hi.x wider.lo.x w.left;
  bottom = min_second hull.lo.y rect.lo.y rect.hi.y wider.lo.y w.bottom;
  right = max_third hull.hi.x rect.lo.x rect.hi.x wider.hi.x w.right;
  top = max_third hull.hi.y rect.lo.y rect.hi.y wider.hi.y w.top;
}

pub is_hull : (hulls : List Rect) (run : ℕ) (hull : Rect) → run < length hulls → hull ≡ get_or hulls run hull → corners hull ≡ hull_at hulls run
is_hull hulls run hull l e = ap corners e ∙ sym (get_or-map corners hulls run hull nowhere l)

set_at : (hulls : List Rect) (run : ℕ) (r : Rect) → run < length hulls → hull_at (slice_set hulls run r) run ≡ corners r
set_at hulls run r l = ap (λ cs. get_or cs run nowhere) (map-set corners hulls run r) ∙ get_or-set_same (map corners hulls) run (corners r) nowhere (omega (arith, l, length-map hulls corners))

set_beside : (hulls : List Rect) (run k : ℕ) (r : Rect) → k ≢ run → hull_at (slice_set hulls run r) k ≡ hull_at hulls k
set_beside hulls run k r n = ap (λ cs. get_or cs k nowhere) (map-set corners hulls run r) ∙ get_or-set_other (map corners hulls) run k (corners r) nowhere n

same_length : (hulls : List Rect) (run : ℕ) (r : Rect) → length (slice_set hulls run r) ≡ length hulls
same_length hulls run r = length-set hulls run r

pub held_wider : (run : ℕ) (rect hull wider : Rect) (old : List Rect) → run < length old → corners hull ≡ hull_at old run → IsWidened hull rect wider → HasHeld run rect old (slice_set old run wider)
held_wider run rect hull wider old l e w = record {
  longer = λ k m. omega (arith, m, same_length old run wider);
  kept = kept;
  inside = omega (arith, l, same_length old run wider);
  held = subst (λ c. Covers c (corners rect)) (sym (set_at old run wider l)) (covers_box hull rect wider w);
}
  where
    beside : (k : ℕ) → k ≢ run → Covers (hull_at (slice_set old run wider) k) (hull_at old k)
    beside k n = subst (λ c. Covers c (hull_at old k)) (sym (set_beside old run k wider n)) (covers_itself (hull_at old k))

    here : Covers (hull_at (slice_set old run wider) run) (hull_at old run)
    here = subst (λ c. Covers c (hull_at old run)) (sym (set_at old run wider l)) (subst (λ c. Covers (corners wider) c) e (covers_hull hull rect wider w))

    kept : (k : ℕ) → k < length old → Covers (hull_at (slice_set old run wider) k) (hull_at old k)
    kept k m = elim (cases_lt k run) [
      | inl less ↦ beside k (λ f. omega arith)
      | inr more ↦ elim (cases_lt run k) [
        | inl less ↦ beside k (λ f. omega arith)
        | inr other ↦ (let f : run ≡ k = omega arith in subst (λ j. Covers (hull_at (slice_set old run wider) j) (hull_at old j)) f here)
      ]
    ]

-- ---- the hulls of more boxes
below_run : (n : ℕ) → suc n / 256 ≤ suc (n / 256)
below_run n = omega arith

pub run_begins : (hulls : List Rect) (pairs : List Ends) (n : ℕ) → AreHulls hulls pairs → n ≡ length pairs → n / 256 ≤ length hulls
run_begins hulls pairs zero h e = omega arith
run_begins hulls pairs (suc n) h e = let i = h.inside n (omega arith) in let b = below_run n in omega arith

pub hulls_kept : (old new : List Rect) (run : ℕ) (rect : Rect) (pairs pairs' : List Ends) → AreHulls old pairs → HasHeld run rect old new → pairs' ≡ pairs → AreHulls new pairs'
hulls_kept old new run rect pairs pairs' h g e = rw e (record {
  inside = λ k l. g.longer (k / 256) (h.inside k l);
  covers = λ k l. covers_through _ _ _ (g.kept (k / 256) (h.inside k l)) (h.covers k l);
})
  where
    covers_through : (a b c : Ends) → Covers a b → Covers b c → Covers a c
    covers_through a b c f g = record { left = le_le _ _ _ f.left g.left; bottom = le_le _ _ _ f.bottom g.bottom; right = le_le _ _ _ g.right f.right; top = le_le _ _ _ g.top f.top }

pub hulls_grown : (old new : List Rect) (run : ℕ) (rect : Rect) (pairs pairs' : List Ends) → AreHulls old pairs → HasHeld run rect old new → run ≡ length pairs / 256 → pairs' ≡ pairs ++ corners rect ∷ [] → AreHulls new pairs'
hulls_grown old new run rect pairs pairs' h g f e = rw e (record { inside = inside; covers = covers })
  where
    both : AreHulls new pairs
    both = hulls_kept old new run rect pairs pairs h g refl

    longer : length (pairs ++ corners rect ∷ []) ≡ length pairs + 1
    longer = length-append pairs (corners rect ∷ [])

    last : (k : ℕ) → k < length (pairs ++ corners rect ∷ []) → length pairs ≤ k → k ≡ length pairs
    last k l m = omega (arith, longer)

    inside : (k : ℕ) → k < length (pairs ++ corners rect ∷ []) → k / 256 < length new
    inside k l = elim (cases_lt k (length pairs)) [
      | inl less ↦ both.inside k less
      | inr more ↦ (let i = g.inside in let j : k / 256 ≡ run = ap (λ n. n / 256) (last k l more) ∙ sym f in omega arith)
    ]

    covers : (k : ℕ) → k < length (pairs ++ corners rect ∷ []) → Covers (hull_at new (k / 256)) (get_or (pairs ++ corners rect ∷ []) k nowhere)
    covers k l = elim (cases_lt k (length pairs)) [
      | inl less ↦ subst (λ c. Covers (hull_at new (k / 256)) c) (sym (get_or_append_left pairs (corners rect ∷ []) nowhere k less)) (both.covers k less)
      | inr more ↦ (
          let at : get_or (pairs ++ corners rect ∷ []) k nowhere ≡ corners rect = ap (λ n. get_or (pairs ++ corners rect ∷ []) n nowhere) (last k l more) ∙ get_or-append_seam pairs (corners rect) [] nowhere in
          let j : run ≡ k / 256 = f ∙ ap (λ n. n / 256) (sym (last k l more)) in
          subst (λ c. Covers (hull_at new (k / 256)) c) (sym at) (subst (λ n. Covers (hull_at new n) (corners rect)) j g.held))
    ]

pub same_hulls : (hulls hulls' : List Rect) (ls bs rs ts ls' bs' rs' ts' : List ℤ) (pairs : List Ends) → AreHulls hulls pairs → hulls' ≡ hulls → pairs_of ls bs rs ts ≡ pairs → ls' ≡ ls → bs' ≡ bs → rs' ≡ rs → ts' ≡ ts
    → AreHulls hulls' (pairs_of ls' bs' rs' ts')
same_hulls hulls hulls' ls bs rs ts ls' bs' rs' ts' pairs h e f p q r s = rw (e, p, q, r, s, f) h

-- ---- a rectangle that misses a hull
pub is_missed : (b : Bool) {P : Type 0} → IsTrue b ↔ P → b ≡ false → ¬ P
is_missed true h e p = cc
is_missed false h e p = (let t = h.1 p in cc)

pub passing_none_of : (p : ℕ → Bool) (from n : ℕ) → ((k : ℕ) → from ≤ k → k < from + n → p k ≡ false) → passing p from n ≡ []
unfolding passing
passing_none_of p from zero h = refl
passing_none_of p from (suc n) h = rw (h from (omega arith) (omega arith)) (passing_none_of p (from + 1) n (λ k l m. h k (omega arith) (omega arith)))

touches_hull : (hull : Rect) (pair : Ends) (rect : Rect) → Covers (corners hull) pair → touches pair (corners rect) ≡ true → touches (corners hull) (corners rect) ≡ true
touches_hull hull pair rect h t =
    let f = four_of _ _ _ _ t in
    all_four _ _ _ _
    (le_yes _ _ (le_le _ _ _ h.left (le_told _ _ f.0)))
    (le_yes _ _ (le_le _ _ _ h.bottom (le_told _ _ f.1)))
    (le_yes _ _ (le_le _ _ _ (le_told _ _ f.2) h.right))
    (le_yes _ _ (le_le _ _ _ (le_told _ _ f.3) h.top))

pub misses : (hull : Rect) (pair : Ends) (rect : Rect) → Covers (corners hull) pair → ¬ (ShareAPoint hull.lo hull.hi rect.lo rect.hi) → touches pair (corners rect) ≡ false
misses hull pair rect h n = elim (cases_Bool (touches pair (corners rect))) [
  | inl t ↦ absurd (n (share_from hull rect (touches_hull hull pair rect h t)))
  | inr f ↦ f
]

pub run_missed : (hulls : List Rect) (ls bs rs ts : List ℤ) → AreColumns ls bs rs ts → AreHulls hulls (pairs_of ls bs rs ts) → (at next : ℕ) (hull rect : Rect) → corners hull ≡ hull_at hulls (at / 256)
    → ¬ (ShareAPoint hull.lo hull.hi rect.lo rect.hi) → next ≤ 256 * (at / 256 + 1) → next ≤ length ls → passing (λ k. touches (pair_at ls bs rs ts k) (corners rect)) at (next - at) ≡ []
run_missed hulls ls bs rs ts c h at next hull rect e n m l = passing_none_of (λ k. touches (pair_at ls bs rs ts k) (corners rect)) at (next - at) missed
  where
    missed : (k : ℕ) → at ≤ k → k < at + (next - at) → touches (pair_at ls bs rs ts k) (corners rect) ≡ false
    missed k from to =
        let same_run : k / 256 ≡ at / 256 = omega arith in
        let within : k < length (pairs_of ls bs rs ts) = omega (arith, length-pairs_of ls bs rs ts c.bottom_len c.right_len c.top_len) in
        let covered = subst (λ a. Covers a (get_or (pairs_of ls bs rs ts) k nowhere)) (ap (hull_at hulls) same_run ∙ sym e) (h.covers k within) in
        ap (λ a. touches a (corners rect)) (sym (get_or-pairs_of ls bs rs ts k c.bottom_len c.right_len c.top_len)) ∙ misses hull (get_or (pairs_of ls bs rs ts) k nowhere) rect covered n
