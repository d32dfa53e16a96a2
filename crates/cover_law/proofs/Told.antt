-- What is told by a choice of edges of even degrees: a truth value of each point, which changes across the chosen edges alone.
use Rattle.std.proofs.Common.{◌≡◌, ℕ, List, [], ◌∷◌, Bool, true, false, not, cond, refl, sym, ap, ◌∙◌, arith}
use Rattle.std.specs.List.{filter}
use Rattle.std.specs.Prelude.{◌==◌}
use Rattle.geom.specs.declared.edge.Edge.{Edge}
use Rattle.geom.specs.Parity as geom
use Rattle.geom.specs.Pixel.{Point}
use Rattle.points_law.proofs.Choices.{◌⊕◌, ◌∧∧◌, Even, parity, in_result}
use Rattle.points_law.proofs.ResultOfChoices.{Edges}
use Rattle.points_law.proofs.Result.{result_parity}
use Rattle.points_law.proofs.Sums.{par_none}
use Rattle.points_law.proofs.Turn.{result_even}
use Rattle.points_law.proofs.Layers.{and_is}
use Rattle.cover_law.specs.Cover.{AreBorders, Bordered, border, edges_in}
use Rattle.cover_law.specs.Rows.{same_list}
use Rattle.cover_law.proofs.Owned.{owned, owned_parity, owned_even}
use Rattle.cover_law.proofs.Projected.{all_edges}

-- far from all edges the value is v; elsewhere it is I
pub record Told (es : List Edge) (v : Bool) (I : Point → Bool) : Type 0 where
  pub choice : Edge → Bool
  pub even : Even choice es
  pub told : (z : Point) → I z ≡ v ⊕ parity choice es z

pub retold : {es : List Edge} {v : Bool} {I : Point → Bool} (J : Point → Bool) → Told es v I → ((z : Point) → J z ≡ I z) → Told es v J
retold J t h = record { choice = t.choice; even = t.even; told = λ z. h z ∙ t.told z }

-- ---- the same everywhere
none : Edge → Bool
none e = false

alone : (v : Bool) → v ≡ v ⊕ false
alone v = grind arith

pub everywhere : (es : List Edge) (v : Bool) → Told es v (λ z. v)
unfolding none
everywhere es v = record { choice = none; even = λ p. par_none es; told = λ z. alone v ∙ ap (λ (t : Bool). v ⊕ t) (sym (par_none es)) }

-- ---- any function of two values
back : (t : Bool) → t ⊕ t ≡ false
back t = grind arith

twice : (a b : Bool) → b ≡ a ⊕ (b ⊕ a)
twice a b = grind arith

-- how F differs from what it is far from all edges
abbrev change : (Bool → Bool → Bool) → Bool → Bool → Bool → Bool → Bool
change F v w x y = F (v ⊕ x) (w ⊕ y) ⊕ F v w

no_change : (F : Bool → Bool → Bool) (v w : Bool) → change F v w false false ≡ false
no_change F v w = ap (λ (x : Bool). F x (w ⊕ false) ⊕ F v w) (sym (alone v)) ∙ ap (λ (x : Bool). F v x ⊕ F v w) (sym (alone w)) ∙ back (F v w)

pub together : (es : List Edge) → Edges es → (F : Bool → Bool → Bool) {v w : Bool} {I J : Point → Bool} → Told es v I → Told es w J → Told es (F v w) (λ z. F (I z) (J z))
together es h F {v = v} {w = w} {I = I} {J = J} s t = record {
  choice = in_result (change F v w) s.choice t.choice es;
  even = result_even es h (change F v w) s.choice t.choice s.even t.even;
  told = λ z.
      ap (λ (x : Bool). F x (J z)) (s.told z) ∙ ap (λ (x : Bool). F (v ⊕ parity s.choice es z) x) (t.told z)
      ∙ twice (F v w) (F (v ⊕ parity s.choice es z) (w ⊕ parity t.choice es z))
      ∙ ap (λ (x : Bool). F v w ⊕ x) (sym (result_parity es h (change F v w) (no_change F v w) s.choice t.choice s.even t.even z));
}

-- ---- a feature
pub feature : (bs : List Bordered) → AreBorders bs → (f : ℕ) → Told (edges_in bs) false (λ z. geom.parity (border f bs) z)
feature bs h f = record {
  choice = owned f bs;
  even = owned_even f bs (all_edges bs h).distinct (h.even f);
  told = owned_parity f bs (all_edges bs h).distinct;
}

-- ---- whether those of some features in which a point lies are just these
none_kept : (t : Bool) (f : ℕ) (r : List ℕ) → same_list (cond t (f ∷ r) r) [] ≡ not t ∧∧ same_list r []
none_kept true f r = refl
none_kept false f r = refl

one_kept : (t : Bool) (f : ℕ) (r : List ℕ) (g : ℕ) (gs : List ℕ) → same_list (cond t (f ∷ r) r) (g ∷ gs) ≡ (t ∧∧ ((f == g) ∧∧ same_list r gs)) ⊕ (not t ∧∧ same_list r (g ∷ gs))
one_kept true f r g gs = and_is (f == g) (same_list r gs) ∙ alone ((f == g) ∧∧ same_list r gs)
one_kept false f r g gs = refl

pub are_just : (bs : List Bordered) → AreBorders bs → (fs set : List ℕ) → Told (edges_in bs) (same_list [] set) (λ z. same_list (filter (λ f. geom.parity (border f bs) z) fs) set)
are_just bs h [] set = everywhere (edges_in bs) (same_list [] set)
are_just bs h (f ∷ fs) [] = retold (λ z. same_list (filter (λ k. geom.parity (border k bs) z) (f ∷ fs)) [])
    (together (edges_in bs) (all_edges bs h) (λ t r. not t ∧∧ r) (feature bs h f) (are_just bs h fs []))
    (λ z. none_kept (geom.parity (border f bs) z) f (filter (λ k. geom.parity (border k bs) z) fs))
are_just bs h (f ∷ fs) (g ∷ gs) = retold (λ z. same_list (filter (λ k. geom.parity (border k bs) z) (f ∷ fs)) (g ∷ gs))
    (together (edges_in bs) (all_edges bs h) (λ s t. s ⊕ t)
    (together (edges_in bs) (all_edges bs h) (λ t r. t ∧∧ ((f == g) ∧∧ r)) (feature bs h f) (are_just bs h fs gs))
    (together (edges_in bs) (all_edges bs h) (λ t r. not t ∧∧ r) (feature bs h f) (are_just bs h fs (g ∷ gs))))
    (λ z. one_kept (geom.parity (border f bs) z) f (filter (λ k. geom.parity (border k bs) z) fs) g gs)
