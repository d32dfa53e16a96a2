-- Boxes by their corners.
use Rattle.std.proofs.Common.{◌≡◌, ℕ, zero, suc, ◌<◌, List, [], ◌∷◌, ◌++◌, length, get_or, map, refl, sym, ap, ◌∙◌, subst, ℤ, pos, w32, FitsSigned}
use native.Mathlib.Nat.{suc_inj, suc-ne-zero}
use Rattle.std.specs.List.{All}
use Rattle.std.proofs.lemmas.List.{get_or-map, length-map}
use Rattle.std.proofs.lemmas.Simd.{map-map}
use Rattle.std.proofs.lemmas.Option.{slice_get-get_or}
use Rattle.std.proofs.Math.Path.{path_j}
use Rattle.std.proofs.Props.{props}
use Rattle.std.specs.Prelude.{◌≤ℤ◌, Some, slice_get}
use Rattle.geom.specs.declared.point.Pt.{Pt}
use Rattle.geom.specs.declared.rect.Rect.{Rect}
use Rattle.lane_tests.specs.Columns.{AreColumns, Ends, corners, nowhere, pair_at, pairs_of}
use Rattle.lane_tests.specs.Boxes.{AreRects, AreSmall, rects_of}
use Rattle.lane_tests.proofs.PairLists.{get_or-pairs_of, length-pairs_of}
use Rattle.lane_tests.proofs.Pairs.{each_push}

le-prop : (a b : ℤ) → IsProp (a ≤ℤ b)
le-prop a b = hlevel props

abbrev rect : (lo hi : Pt) → lo.x ≤ℤ hi.x → lo.y ≤ℤ hi.y → Rect
rect lo hi w u = record { lo = lo; hi = hi; wide = w; high = u }

rect_path : (r s : Rect) → r.lo ≡ s.lo → r.hi ≡ s.hi → r ≡ s
rect_path r s h k = path_j (λ (lo : Pt) _. (hi : Pt) → r.hi ≡ hi → (w : lo.x ≤ℤ hi.x) (u : lo.y ≤ℤ hi.y) → r ≡ rect lo hi w u)
    (λ hi k. path_j (λ (hi : Pt) _. (w : r.lo.x ≤ℤ hi.x) (u : r.lo.y ≤ℤ hi.y) → r ≡ rect r.lo hi w u)
    (λ w u i. rect r.lo r.hi (le-prop r.lo.x r.hi.x r.wide w i) (le-prop r.lo.y r.hi.y r.high u i)) k) h s.hi k s.wide s.high

pub corners_tell : (r s : Rect) → corners r ≡ corners s → r ≡ s
corners_tell r s e = rect_path r s (ap (λ p. p.0) e) (ap (λ p. p.1) e)

-- the boxes of pairs have these corners
pub corners-rects_of : (es : List Ends) (h : AreRects es) → map corners (rects_of es h) ≡ es
corners-rects_of [] h = refl
corners-rects_of (e ∷ es) h = ap (λ ps. e ∷ ps) (corners-rects_of es (record { wide = λ k. h.wide (suc k); high = λ k. h.high (suc k) }))

pub rects_grown : (old now : List Ends) (r : Rect) → AreRects old → now ≡ old ++ corners r ∷ [] → AreRects now
rects_grown old now r h e = rw e (record { wide = each_push nowhere (λ e. e.0.x ≤ℤ e.1.x) old (corners r) h.wide r.wide; high = each_push nowhere (λ e. e.0.y ≤ℤ e.1.y) old (corners r) h.high r.high })

-- the columns of these boxes
pub columns_are : (es : List Ends) (h : AreRects es) (boxes : List Rect) → rects_of es h ≡ boxes → map corners boxes ≡ es
columns_are es h boxes e = sym (ap (map corners) e) ∙ corners-rects_of es h

-- ---- one box
pub rect_at : (es : List Ends) (h : AreRects es) (boxes : List Rect) (k : ℕ) (r : Rect) → rects_of es h ≡ boxes → k < length boxes → corners r ≡ get_or es k nowhere → slice_get boxes k ≡ Some r
rect_at es h boxes k r e l c =
    let same : map corners boxes ≡ es = columns_are es h boxes e in
    slice_get-get_or boxes k r l ∙ ap (λ b. Some b) (corners_tell (get_or boxes k r) r (sym (get_or-map corners boxes k r nowhere l) ∙ ap (λ es. get_or es k nowhere) same ∙ sym c))

pub pair_of : (ls bs rs ts : List ℤ) (es : List Ends) → AreColumns ls bs rs ts → pairs_of ls bs rs ts ≡ es → (k : ℕ) → pair_at ls bs rs ts k ≡ get_or es k nowhere
pair_of ls bs rs ts es h e k = sym (get_or-pairs_of ls bs rs ts k h.bottom_len h.right_len h.top_len) ∙ ap (λ es. get_or es k nowhere) e

pub wide_at : (ls bs rs ts : List ℤ) (es : List Ends) → AreColumns ls bs rs ts → pairs_of ls bs rs ts ≡ es → AreRects es → (k : ℕ) → get_or ls k (pos 0) ≤ℤ get_or rs k (pos 0)
wide_at ls bs rs ts es h e r k = subst (λ (p : Ends). p.0.x ≤ℤ p.1.x) (sym (pair_of ls bs rs ts es h e k)) (r.wide k)

pub high_at : (ls bs rs ts : List ℤ) (es : List Ends) → AreColumns ls bs rs ts → pairs_of ls bs rs ts ≡ es → AreRects es → (k : ℕ) → get_or bs k (pos 0) ≤ℤ get_or ts k (pos 0)
high_at ls bs rs ts es h e r k = subst (λ (p : Ends). p.0.y ≤ℤ p.1.y) (sym (pair_of ls bs rs ts es h e k)) (r.high k)

-- ---- columns of boxes
lefts_of_pairs : (ls bs rs ts : List ℤ) → length bs ≡ length ls → length rs ≡ length ls → length ts ≡ length ls → map (λ p. p.0.x) (pairs_of ls bs rs ts) ≡ ls
lefts_of_pairs [] bs rs ts e f g = refl
lefts_of_pairs (l ∷ ls) [] rs ts e f g = absurd (suc-ne-zero _ (sym e))
lefts_of_pairs (l ∷ ls) (b ∷ bs) [] ts e f g = absurd (suc-ne-zero _ (sym f))
lefts_of_pairs (l ∷ ls) (b ∷ bs) (r ∷ rs) [] e f g = absurd (suc-ne-zero _ (sym g))
lefts_of_pairs (l ∷ ls) (b ∷ bs) (r ∷ rs) (t ∷ ts) e f g = ap (λ xs. l ∷ xs) (lefts_of_pairs ls bs rs ts (suc_inj e) (suc_inj f) (suc_inj g))

pub lefts_are : (ls bs rs ts : List ℤ) (es : List Ends) (h : AreRects es) (boxes : List Rect) → AreColumns ls bs rs ts → pairs_of ls bs rs ts ≡ es → rects_of es h ≡ boxes → ls ≡ map (λ r. r.lo.x) boxes
lefts_are ls bs rs ts es h boxes c e f =
    sym (lefts_of_pairs ls bs rs ts c.bottom_len c.right_len c.top_len) ∙ ap (map (λ p. p.0.x)) (e ∙ sym (columns_are es h boxes f)) ∙ map-map (λ p. p.0.x) corners boxes

pub all_small : (ls bs rs ts : List ℤ) (es : List Ends) (h : AreRects es) (boxes : List Rect) → AreColumns ls bs rs ts → pairs_of ls bs rs ts ≡ es → rects_of es h ≡ boxes → All AreSmall boxes
all_small ls bs rs ts es h boxes c e f = λ k d l.
    let same : corners (get_or boxes k d) ≡ pair_at ls bs rs ts k =
    sym (get_or-map corners boxes k d nowhere l) ∙ ap (λ es. get_or es k nowhere) (columns_are es h boxes f) ∙ sym (pair_of ls bs rs ts es c e k) in
    record {
      left = subst (λ (p : Ends). FitsSigned w32 p.0.x) (sym same) (c.left.fits k);
      bottom = subst (λ (p : Ends). FitsSigned w32 p.0.y) (sym same) (c.bottom.fits k);
      right = subst (λ (p : Ends). FitsSigned w32 p.1.x) (sym same) (c.right.fits k);
      top = subst (λ (p : Ends). FitsSigned w32 p.1.y) (sym same) (c.top.fits k);
    }

pub room : (ls bs rs ts : List ℤ) (es : List Ends) (h : AreRects es) (boxes : List Rect) → AreColumns ls bs rs ts → pairs_of ls bs rs ts ≡ es → rects_of es h ≡ boxes → length boxes ≡ length ls
room ls bs rs ts es h boxes c e f = sym (length-map boxes corners) ∙ ap length (columns_are es h boxes f ∙ sym e) ∙ length-pairs_of ls bs rs ts c.bottom_len c.right_len c.top_len

-- ---- columns read as slices
pub same_pair : (ls bs rs ts ls' bs' rs' ts' : List ℤ) (k : ℕ) → ls' ≡ ls → bs' ≡ bs → rs' ≡ rs → ts' ≡ ts → pair_at ls' bs' rs' ts' k ≡ pair_at ls bs rs ts k
same_pair ls bs rs ts ls' bs' rs' ts' k p q r s = λ i. pair_at (p i) (q i) (r i) (s i) k

pub same_columns : (ls bs rs ts ls' bs' rs' ts' : List ℤ) → AreColumns ls bs rs ts → ls' ≡ ls → bs' ≡ bs → rs' ≡ rs → ts' ≡ ts → AreColumns ls' bs' rs' ts'
same_columns ls bs rs ts ls' bs' rs' ts' h p q r s = rw (p, q, r, s) h
