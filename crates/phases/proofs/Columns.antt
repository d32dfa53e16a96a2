-- The columns of a strip, where cuts ascend.
use Rattle.std.proofs.Common.{◌≡◌, inl, inr, ℕ, zero, suc, ◌+◌, ◌-◌, ◌<◌, ◌≤◌, List, [], ◌∷◌, Bool, true, false, cond, refl, sym, ◌∙◌, subst, arith, length, get_or}
use Rattle.std.proofs.Math.IntN.{◌-ℤ◌, pos}
use Rattle.std.proofs.lemmas.Bool.{cases_lt, le-leb, le-ltb, lt-leb, lt-ltb}
use Rattle.std.specs.Prelude.{◌↔◌, ◌≤ℤ◌, ◌<ℤ◌, ◌&&◌, ℤ, AllPairs, Contains, Some, int_le, nat_le, nat_lt}
use Rattle.std.specs.Int.{int_max, int_min}
use Rattle.std.proofs.lemmas.Int.{ints, clamps}
use Rattle.std.proofs.lemmas.List.Elements.{Contains-get_or}
use Rattle.geom.specs.declared.point.Pt.{Pt}
use Rattle.geom.specs.declared.rect.Rect.{Rect}
use Rattle.geom.specs.declared.segment.Seg.{Seg}
use Rattle.geom.specs.Box.{IsInBox}
use Rattle.geom.specs.Route.{Meets}
use Rattle.geom.proofs.Lists.{count-cons}
use Rattle.geom.proofs.Meaning.{met_pixels_are_in_bounds}
use Rattle.geom.proofs.Tests.{le_told, le_untold}
use Rattle.hot_region.proofs.ListLaws.{head_pair, tail_pairs}
use Rattle.grid.specs.Tiles.{BoundsHold}
use Rattle.hot_region.specs.Rects.{IsIn}
use Rattle.linking.proofs.Covering.{inside}
use Rattle.strips_law.specs.Strips.{crosses, strip_at, strip_of}
use Rattle.strips_law.proofs.Columns.{within_cuts}

abbrev pub Ascend : List ℤ → Type 0
Ascend cuts = AllPairs (λ c d. c ≤ℤ d) cuts

-- the cuts that aren't past the column are the first ones
no_cut : (cuts : List ℤ) (x : ℤ) → ((c : ℤ) → Contains cuts c → x <ℤ c) → strip_of cuts x ≡ 0
no_cut [] x h = refl
no_cut (c ∷ cs) x h = count-cons (λ (d : ℤ). int_le d x) c cs ∙ first (no_cut cs x (λ d (i, l, at). h d (suc i, omega (arith, l), at))) (int_le c x) refl
  where
    first : strip_of cs x ≡ 0 → (b : Bool) → int_le c x ≡ b → cond (int_le c x) 1 0 + strip_of cs x ≡ 0
    first none true e = let t = le_told c x e in let l = h c (0, omega arith, refl) in absurd (omega (arith, ints, t, l))
    first none false e = rw (e, none) refl

pub past_cut : (cuts : List ℤ) (x : ℤ) → Ascend cuts → (k : ℕ) (d : ℤ) → k < length cuts → (k < strip_of cuts x) ↔ (get_or cuts k d ≤ℤ x)
past_cut [] x up k d l = absurd (omega (arith, l))
past_cut (c ∷ cs) x up k d l = at (past_cut cs x (tail_pairs (λ c d. c ≤ℤ d) c cs up)) (int_le c x) refl k l
  where
    counted : strip_of (c ∷ cs) x ≡ cond (int_le c x) 1 0 + strip_of cs x
    counted = count-cons (λ (d : ℤ). int_le d x) c cs

    at : ((k : ℕ) (d : ℤ) → k < length cs → (k < strip_of cs x) ↔ (get_or cs k d ≤ℤ x)) → (b : Bool) → int_le c x ≡ b → (k : ℕ) → k < length (c ∷ cs) → (k < strip_of (c ∷ cs) x) ↔ (get_or (c ∷ cs) k d ≤ℤ x)
    at each true e zero l = let n : strip_of (c ∷ cs) x ≡ 1 + strip_of cs x = counted ∙ rw e refl in (λ h. le_told c x e, λ h. omega (arith, n))
    at each true e (suc k) l =
        let n : strip_of (c ∷ cs) x ≡ 1 + strip_of cs x = counted ∙ rw e refl in
        let rest = each k d (omega (arith, l)) in
        (λ h. rest.0 (omega (arith, n, h)), λ h. let m = rest.1 h in omega (arith, n, m))
    at each false e k l =
        let past : x <ℤ c = le_untold c x e in
        let none : strip_of (c ∷ cs) x ≡ 0 = counted ∙ rw (e, no_cut cs x (λ d i. let g = head_pair (λ c d. c ≤ℤ d) c cs d up i in omega (arith, ints, g, past))) refl in
        (λ h. absurd (omega (arith, none, h)), λ h. absurd (far k l h past))
      where
        far : (k : ℕ) → k < length (c ∷ cs) → get_or (c ∷ cs) k d ≤ℤ x → x <ℤ c → ⊥
        far zero l h past = omega (arith, ints, h, past)
        far (suc k) l h past = let g = head_pair (λ c d. c ≤ℤ d) c cs (get_or cs k d) up (Contains-get_or cs k d (omega (arith, l))) in omega (arith, ints, g, h, past)

module _ (cuts : List ℤ) (up : Ascend cuts) (strip : ℕ) (low x : ℤ) (from : low ≤ℤ x) where
  -- from the cut before the strip on, if that lies in the box
  pub from_cut : (cut q d : ℤ) → 0 < strip → strip ≤ length cuts → cut ≡ get_or cuts (strip - 1) d → q ≡ int_max low cut → (q ≤ℤ x) ↔ (strip ≤ strip_of cuts x)
  from_cut cut q d some l is e = (to, back)
    where
      told : (strip - 1 < strip_of cuts x) ↔ (cut ≤ℤ x)
      told = subst (λ (c : ℤ). (strip - 1 < strip_of cuts x) ↔ (c ≤ℤ x)) (sym is) (past_cut cuts x up (strip - 1) d (omega (arith, some, l)))

      to : q ≤ℤ x → strip ≤ strip_of cuts x
      to h = let m = told.1 (omega (arith, ints, clamps, h, e)) in omega (arith, m, some)

      back : strip ≤ strip_of cuts x → q ≤ℤ x
      back h = let m = told.0 (omega (arith, h, some)) in omega (arith, ints, clamps, m, e, from)

  -- up to before the cut behind it
  pub to_cut : (cut high q d : ℤ) → strip < length cuts → cut ≡ get_or cuts strip d → q ≡ int_min high (int_max cut low -ℤ pos 1) → x ≤ℤ high → (x ≤ℤ q) ↔ (strip_of cuts x ≤ strip)
  to_cut cut high q d l is e below = (to, back)
    where
      told : (strip < strip_of cuts x) ↔ (cut ≤ℤ x)
      told = subst (λ (c : ℤ). (strip < strip_of cuts x) ↔ (c ≤ℤ x)) (sym is) (past_cut cuts x up strip d l)

      to : x ≤ℤ q → strip_of cuts x ≤ strip
      to h = elim (cases_lt strip (strip_of cuts x)) [
        | inl less ↦ let m = told.0 less in absurd (omega (arith, ints, clamps, m, e, h, from))
        | inr more ↦ more
      ]

      back : strip_of cuts x ≤ strip → x ≤ℤ q
      back h = at (int_le cut x) refl
        where
          at : (b : Bool) → int_le cut x ≡ b → x ≤ℤ q
          at true t = let m = told.1 (le_told cut x t) in absurd (omega (arith, m, h))
          at false t = let m = le_untold cut x t in omega (arith, ints, clamps, m, e, below)

-- whether a line crosses the border on the left of a strip is told by the cut there
module _ (cuts : List ℤ) (up : Ascend cuts) (strip : ℕ) (s : Seg) (cut d : ℤ) (some : 0 < strip) (l : strip ≤ length cuts) (is : cut ≡ get_or cuts (strip - 1) d) where
  reached : (x : ℤ) → (strip - 1 < strip_of cuts x) ↔ (cut ≤ℤ x)
  reached x = subst (λ (c : ℤ). (strip - 1 < strip_of cuts x) ↔ (c ≤ℤ x)) (sym is) (past_cut cuts x up (strip - 1) d (omega (arith, some, l)))

  pub begins_behind : cut ≤ℤ s.a.x → false ≡ crosses cuts strip s
  begins_behind h = let m = (reached s.a.x).1 h in rw (le-ltb (strip_of cuts s.a.x) strip (omega (arith, m, some))) refl

  pub begins_before : s.a.x <ℤ cut → (border end : ℤ) → border ≡ cut → end ≡ s.b.x → int_le border end ≡ crosses cuts strip s
  begins_before h border end e f = rw (e, f, lt-ltb (strip_of cuts s.a.x) strip before) (ends (int_le cut s.b.x) refl)
    where
      before : strip_of cuts s.a.x < strip
      before = elim (cases_lt (strip_of cuts s.a.x) strip) [
        | inl less ↦ less
        | inr more ↦ let m = (reached s.a.x).0 (omega (arith, more, some)) in absurd (omega (arith, ints, m, h))
      ]

      ends : (b : Bool) → int_le cut s.b.x ≡ b → int_le cut s.b.x ≡ nat_le strip (strip_of cuts s.b.x)
      ends true e = let m = (reached s.b.x).1 (le_told cut s.b.x e) in e ∙ sym (le-leb strip (strip_of cuts s.b.x) (omega (arith, m, some)))
      ends false e = elim (cases_lt (strip_of cuts s.b.x) strip) [
        | inl less ↦ e ∙ sym (lt-leb strip (strip_of cuts s.b.x) less)
        | inr more ↦ let m = (reached s.b.x).0 (omega (arith, more, some)) in let n = le_untold cut s.b.x e in absurd (omega (arith, ints, m, n))
      ]

pub crosses_first : (cuts : List ℤ) (strip : ℕ) (s : Seg) → strip ≡ 0 → false ≡ crosses cuts strip s
crosses_first cuts strip s none = rw (le-ltb (strip_of cuts s.a.x) strip (omega (arith, none))) refl

pub crosses_last : (cuts : List ℤ) (strip : ℕ) (s : Seg) → length cuts < strip → false ≡ crosses cuts strip s
crosses_last cuts strip s past = let n = within_cuts cuts s.b in rw (lt-leb strip (strip_of cuts s.b.x) (omega (arith, n, past))) (none (nat_lt (strip_of cuts s.a.x) strip))
  where
    none : (b : Bool) → false ≡ (b && false)
    none true = refl
    none false = refl

-- ---- in a box
pub all_before : (cuts : List ℤ) (x : ℤ) (strip : ℕ) → strip ≡ length cuts → strip_of cuts x ≤ strip
all_before cuts x strip e = let n = within_cuts cuts (record { x = x; y = x }) in omega (arith, n, e)

module _ (cuts : List ℤ) (strip : ℕ) (bounds : Rect) (left right : ℤ) (first : (x : ℤ) → bounds.lo.x ≤ℤ x → (left ≤ℤ x) ↔ (strip ≤ strip_of cuts x)) (last : (x : ℤ) → bounds.lo.x ≤ℤ x → x ≤ℤ bounds.hi.x → (x ≤ℤ right) ↔ (strip_of cuts x ≤ strip)) (c : Pt) (in_box : IsIn bounds c) where
  -- a point of the box in the strip is in these columns
  between : strip_at cuts c ≡ strip → (left ≤ℤ c.x) × (c.x ≤ℤ right)
  between e = ((first c.x in_box.left).1 (omega (arith, e)), (last c.x in_box.left in_box.right).1 (omega (arith, e)))

  pub no_column : right <ℤ left → strip_at cuts c ≡ strip → ⊥
  no_column none e = let k = between e in let a = k.0 in let b = k.1 in omega (arith, ints, a, b, none)

  pub in_part : (lo hi : Pt) → lo.x ≡ left → lo.y ≡ bounds.lo.y → hi.x ≡ right → hi.y ≡ bounds.hi.y → IsInBox lo hi c ↔ (strip_at cuts c ≡ strip)
  in_part lo hi lo_x lo_y hi_x hi_y = (
    (λ h. let a = (first c.x in_box.left).0 (subst (λ (x : ℤ). x ≤ℤ c.x) lo_x h.left) in let b = (last c.x in_box.left in_box.right).0 (subst (λ (x : ℤ). c.x ≤ℤ x) hi_x h.right) in omega (arith, a, b)),
    (λ e. let k = between e in record {
      left = subst (λ (x : ℤ). x ≤ℤ c.x) (sym lo_x) k.0;
      right = subst (λ (x : ℤ). c.x ≤ℤ x) (sym hi_x) k.1;
      bottom = subst (λ (y : ℤ). y ≤ℤ c.y) (sym lo_y) in_box.bottom;
      top = subst (λ (y : ℤ). c.y ≤ℤ y) (sym hi_y) in_box.top;
    }),
  )

-- each pixel that a segment meets lies in a box of all segments
pub met_in : (bounds : Rect) (segments : List Seg) → BoundsHold (Some bounds) segments → (s : Seg) (c : Pt) → Contains segments s → Meets s c → IsIn bounds c
met_in bounds segments holds s c i met = let e = holds s i in inside bounds s.a s.b c e.0 e.1 (met_pixels_are_in_bounds s c met)
