-- The edges that begin at one vertex, the steepest first: each has on its left the parity on the right of the one before.
use mathlib.Core.Path.{◌≡◌, refl, sym, ◌∙◌, ap, subst}
use mathlib.Core.Bool.{Bool}
use mathlib.Core.List.{List, ◌∷◌, ◌++◌}
use mathlib.Core.Logic.{inl, inr, ⊎_elim}
use native.Mathlib.Omega.{arith}
use lib.IntN.{ℤ, pos, ◌-ℤ◌, ◌*ℤ◌}
use lib.Signed.{◌<ℤ◌}
use borrow.Author.Differences.{ints}
use Rattle.geom.specs.declared.point.Pt.{Pt}
use Rattle.geom.specs.declared.edge.Edge.{Edge}
use Rattle.geom.proofs.Lists.{In, in_append, in_back}
use Rattle.geom.proofs.Numbers.{nonneg}
use Rattle.points_law.proofs.Choices.{run, rise, Even, parity, left, right}
use Rattle.points_law.proofs.ResultOfChoices.{Edges}
use Rattle.points_law.proofs.Meet.{slope}
use Rattle.points_law.proofs.Vertex.{west}
use Rattle.label_sweep.specs.Status.{IsUnder}
use Rattle.label_sweep.proofs.Order.{by_turn}
use Rattle.label_sweep.proofs.West.{Next, first_turn, next_turn}
use Rattle.label_sweep.proofs.Step.{Pairs, pairs_across, pairs_right}

-- f is steeper than g
abbrev pub Steeper : Edge → Edge → Type 0
Steeper f g = pos 0 <ℤ slope f g

never_both : (rf sf rg sg : ℤ) → pos 0 <ℤ (rg *ℤ sf -ℤ rf *ℤ sg) → pos 0 <ℤ (rf *ℤ sg -ℤ rg *ℤ sf) → ⊥
never_both rf sf rg sg h i = omega (arith, ints)

pub one_steeper : (f g : Edge) → Steeper f g → Steeper g f → ⊥
one_steeper f g h i = never_both (run f) (rise f) (run g) (rise g) h i

never_itself : (r s : ℤ) → pos 0 <ℤ (r *ℤ s -ℤ r *ℤ s) → ⊥
never_itself r s h = omega (arith, ints)

pub not_steeper : (f g : Edge) → f ≡ g → Steeper f g → ⊥
not_steeper f g e h = never_itself (run g) (rise g) (subst (λ w. pos 0 <ℤ slope w g) e h)

-- the spokes at v, the steepest first
pub record Spokes (es : List Edge) (v : Pt) (spokes : List Edge) : Type 0 where
  pub sound : (e : Edge) → In e spokes → In e es × (e.p ≡ v)
  pub complete : (e : Edge) → In e es → e.p ≡ v → In e spokes
  pub order : Pairs Steeper spokes

-- the first one
pub first_left : (es : List Edge) → Edges es → (a : Edge → Bool) → Even a es → (v : Pt) (k : Edge) (rest : List Edge) → Spokes es v (k ∷ rest) → parity a es (left k) ≡ west a es v
first_left es h a ev v k rest s = let i = s.sound k (inl refl) in
    first_turn es h a ev k i.0 (λ f j b t. clash f (s.complete f j (b ∙ i.1)) t) ∙ ap (west a es) i.1
  where
    clash : (f : Edge) → In f (k ∷ rest) → Steeper f k → ⊥
    clash f (inl e) t = not_steeper f k (sym e) t
    clash f (inr j) t = one_steeper f k t (s.order.0 f j)

-- and one after another
module _ (es : List Edge) (h : Edges es) (v : Pt) (before : List Edge) (g k : Edge) (rest : List Edge) (s : Spokes es v (before ++ (g ∷ (k ∷ rest)))) where
  there : Pairs Steeper (g ∷ (k ∷ rest))
  there = pairs_right Steeper before (g ∷ (k ∷ rest)) s.order

  g_in : In g (before ++ (g ∷ (k ∷ rest)))
  g_in = in_back before (g ∷ (k ∷ rest)) g (inl refl)

  k_in : In k (before ++ (g ∷ (k ∷ rest)))
  k_in = in_back before (g ∷ (k ∷ rest)) k (inr (inl refl))

  places : (f : Edge) → In f es → f.p ≡ k.p → {P : Type 0} → (In f before → P) → (f ≡ g → P) → (f ≡ k → P) → (In f rest → P) → P
  places f i b m n o q = ⊎_elim m (λ j. ⊎_elim (λ e. n (sym e)) (λ l. ⊎_elim (λ e. o (sym e)) q l) j)
      (in_append before (g ∷ (k ∷ rest)) f (s.complete f i (b ∙ (s.sound k k_in).1)))

  next : Next es g k
  next = record {
    begins = (s.sound g g_in).1 ∙ sym (s.sound k k_in).1;
    before = there.0 k (inl refl);
    up = λ f i b t. places f i b (λ j. pairs_across Steeper before (g ∷ (k ∷ rest)) s.order f k j (inr (inl refl)))
        (λ e. absurd (not_steeper f g e t)) (λ e. absurd (one_steeper f g t (subst (λ w. Steeper g w) (sym e) (there.0 k (inl refl))))) (λ j. absurd (one_steeper f g t (there.0 f (inr j))));
    down = λ f i b t. places f i b (λ j. inr (pairs_across Steeper before (g ∷ (k ∷ rest)) s.order f g j (inl refl)))
        (λ e. inl e) (λ e. absurd (not_steeper f k e t)) (λ j. absurd (one_steeper f k t (there.1.0 f j)));
  }

  pub next_left : (a : Edge → Bool) → Even a es → parity a es (left k) ≡ parity a es (right g)
  next_left a ev = next_turn es h a ev g k (s.sound g g_in).0 (s.sound k k_in).0 next

-- from the lowest to the steepest they are in the order of what stands
pub under_turn : (e f : Edge) → e.p ≡ f.p → Steeper f e → IsUnder e f
under_turn e f h t = by_turn e f h (nonneg (slope f e) t)
