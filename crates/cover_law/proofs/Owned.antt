-- A feature's border as a choice among all edges: parities over it as sums over all of them.
use Rattle.std.proofs.Common.{◌≡◌, inl, inr, ℕ, List, [], ◌∷◌, Bool, true, false, cond, sym, ap, ◌∙◌, subst}
use Rattle.std.specs.List.{filter}
use Rattle.geom.specs.declared.edge.Edge.{Edge}
use Rattle.geom.specs.Parity as geom
use Rattle.geom.specs.Pixel.{Point}
use Rattle.geom.specs.Rounded.{HasEvenDegrees}
use Rattle.geom.proofs.Lists.{In, Distinct, map_in}
use Rattle.points_law.proofs.Choices.{◌⊕◌, ◌∧∧◌, par, is, Even, counted, parity}
use Rattle.points_law.proofs.Sums.{par_cong}
use Rattle.points_law.proofs.Even.{same, same_is, same_refl, not_true}
use Rattle.points_law.proofs.Counts.{par_filter}
use Rattle.points_law.proofs.Layers.{parity_is, degree_is, par_map}
use Rattle.points_law.proofs.Truth.{cond_no, cond_yes}
use Rattle.cover_law.specs.Cover.{Bordered, border, edge_in, edges_in, has}

-- whether the first of the edges that is e has the feature
pub owned : ℕ → List Bordered → Edge → Bool
owned f [] e = false
owned f (b ∷ bs) e = cond (same (edge_in b) e) (has f b.features) (owned f bs e)

pub owned_at : (f : ℕ) (bs : List Bordered) → Distinct (edges_in bs) → (b : Bordered) → In b bs → owned f bs (edge_in b) ≡ has f b.features
unfolding owned
owned_at f [] d b i = absurd i
owned_at f (c ∷ cs) d b (inl e) = cond_yes (same (edge_in c) (edge_in b)) (has f c.features) (owned f cs (edge_in b)) (subst (λ (x : Bordered). same (edge_in c) (edge_in x) ≡ true) e (same_refl (edge_in c))) ∙ ap (λ (x : Bordered). has f x.features) e
owned_at f (c ∷ cs) d b (inr i) =
    cond_no (same (edge_in c) (edge_in b)) (has f c.features) (owned f cs (edge_in b))
    (not_true (same (edge_in c) (edge_in b)) (λ h. d.0 (subst (λ (x : Edge). In x (edges_in cs)) (sym (same_is (edge_in c) (edge_in b) h)) (map_in edge_in cs b i))))
    ∙ owned_at f cs d.1 b i

-- a sum over a border is one over all edges
pub over_border : (f : ℕ) (bs : List Bordered) → Distinct (edges_in bs) → (p : Edge → Bool) → par p (border f bs) ≡ par (λ e. owned f bs e ∧∧ p e) (edges_in bs)
over_border f bs d p =
    par_map edge_in p (filter (λ b. has f b.features) bs)
    ∙ par_filter (λ b. has f b.features) (λ b. p (edge_in b)) bs
    ∙ sym (par_cong (λ b. owned f bs (edge_in b) ∧∧ p (edge_in b)) (λ b. has f b.features ∧∧ p (edge_in b)) bs (λ b i. ap (λ (t : Bool). t ∧∧ p (edge_in b)) (owned_at f bs d b i)))
    ∙ sym (par_map edge_in (λ e. owned f bs e ∧∧ p e) bs)

pub owned_parity : (f : ℕ) (bs : List Bordered) → Distinct (edges_in bs) → (z : Point) → geom.parity (border f bs) z ≡ parity (owned f bs) (edges_in bs) z
owned_parity f bs d z = parity_is (border f bs) z ∙ over_border f bs d (λ e. counted e z)

pub owned_even : (f : ℕ) (bs : List Bordered) → Distinct (edges_in bs) → HasEvenDegrees (border f bs) → Even (owned f bs) (edges_in bs)
owned_even f bs d h v = sym (over_border f bs d (λ e. is v e.p ⊕ is v e.q)) ∙ sym (degree_is (border f bs) v) ∙ h v
