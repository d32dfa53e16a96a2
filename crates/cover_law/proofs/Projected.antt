-- Edges chosen by a choice of even degrees, as a layer with nothing in the second one.
use Rattle.std.proofs.Common.{◌≡◌, List, [], ◌∷◌, map, Bool, true, false, cond, refl, sym, ap, ◌∙◌, arith, subst}
use Rattle.std.specs.List.{All, AllPairs, filter}
use Rattle.std.proofs.lemmas.List.Kept.{AllPairs-cons}
use Rattle.geom.specs.declared.segment.Source.TheVariants.{A, B}
use Rattle.geom.specs.declared.edge.Edge.{Edge}
use Rattle.geom.specs.declared.edge.Counted.{Counted}
use Rattle.geom.specs.EdgeOrder.{IsEdgeBefore}
use Rattle.geom.specs.Limit.{AreInLimit}
use Rattle.geom.specs.Noded.{IsNoded}
use Rattle.geom.specs.Parity as geom
use Rattle.geom.specs.Pixel.{Point}
use Rattle.geom.specs.Rounded.{edges_of, odd_edges, is_odd}
use Rattle.geom.proofs.Lists.{Distinct, in_map}
use Rattle.geom.proofs.ListOrder.{pairs_head, pairs_tail}
use Rattle.geom.proofs.Owners.{all_in}
use Rattle.points_law.specs.Law.{AreLayers}
use Rattle.points_law.proofs.Choices.{◌⊕◌, ◌∧∧◌, par, is, Even, counted, parity}
use Rattle.points_law.proofs.ResultOfChoices.{Edges}
use Rattle.points_law.proofs.Sums.{par_same, par_none}
use Rattle.points_law.proofs.Counts.{par_filter}
use Rattle.points_law.proofs.Layers.{parity_is, degree_is, par_map, distinct, edge_of, edges_in as edges_of_layers}
use Rattle.cover_law.specs.Cover.{AreBorders, Bordered, edge_in, edges_in}

abbrev pub counted_as : (Edge → Bool) → Bordered → Counted
counted_as a b = record { edge = b.edge; in_a = cond (a b.edge) 1 0; in_b = 0 }

abbrev pub project : (Edge → Bool) → List Bordered → List Counted
project a bs = map (counted_as a) bs

pub project_edges : (a : Edge → Bool) (bs : List Bordered) → edges_of (project a bs) ≡ edges_in bs
project_edges a [] = refl
project_edges a (b ∷ bs) = ap (λ es. b.edge ∷ es) (project_edges a bs)

one_or_none : (t : Bool) → is_odd (cond t 1 0) ≡ t
one_or_none true = refl
one_or_none false = refl

-- ---- sums over the chosen edges, and over none
over_chosen : (a p : Edge → Bool) (bs : List Bordered) → par p (odd_edges A (project a bs)) ≡ par (λ e. a e ∧∧ p e) (edges_in bs)
over_chosen a p bs =
    par_map edge_of p (filter (λ c. is_odd c.in_a) (project a bs))
    ∙ par_filter (λ c. is_odd c.in_a) (λ c. p (edge_of c)) (project a bs)
    ∙ par_map (counted_as a) (λ c. is_odd c.in_a ∧∧ p (edge_of c)) bs
    ∙ par_same (λ b. is_odd (cond (a (edge_in b)) 1 0) ∧∧ p (edge_in b)) (λ b. a (edge_in b) ∧∧ p (edge_in b)) bs (λ b. ap (λ (t : Bool). t ∧∧ p (edge_in b)) (one_or_none (a (edge_in b))))
    ∙ sym (par_map edge_in (λ e. a e ∧∧ p e) bs)

over_none : (a p : Edge → Bool) (bs : List Bordered) → par p (odd_edges B (project a bs)) ≡ false
over_none a p bs =
    par_map edge_of p (filter (λ c. is_odd c.in_b) (project a bs))
    ∙ par_filter (λ c. is_odd c.in_b) (λ c. p (edge_of c)) (project a bs)
    ∙ par_map (counted_as a) (λ c. is_odd c.in_b ∧∧ p (edge_of c)) bs
    ∙ par_none bs

pub chosen_parity : (a : Edge → Bool) (bs : List Bordered) (z : Point) → geom.parity (odd_edges A (project a bs)) z ≡ parity a (edges_in bs) z
chosen_parity a bs z = parity_is (odd_edges A (project a bs)) z ∙ over_chosen a (λ e. counted e z) bs

pub no_parity : (a : Edge → Bool) (bs : List Bordered) (z : Point) → geom.parity (odd_edges B (project a bs)) z ≡ false
no_parity a bs z = parity_is (odd_edges B (project a bs)) z ∙ over_none a (λ e. counted e z) bs

-- ---- they are layers
pairs_project : (a : Edge → Bool) (bs : List Bordered) → AllPairs (λ b c. IsEdgeBefore b.edge c.edge) bs → AllPairs (λ c d. IsEdgeBefore c.edge d.edge) (project a bs)
pairs_project a [] h = λ i j d k l. absurd (omega arith)
pairs_project a (b ∷ bs) h = AllPairs-cons (λ (c d : Counted). IsEdgeBefore c.edge d.edge) (counted_as a b) (project a bs)
    (all_in (λ (d : Counted). IsEdgeBefore b.edge d.edge) (project a bs) (λ d i. let m = in_map (counted_as a) bs d i in
    subst (λ (x : Counted). IsEdgeBefore b.edge x.edge) m.2 (pairs_head (λ (x y : Bordered). IsEdgeBefore x.edge y.edge) b bs h m.0 m.1)))
    (pairs_project a bs (pairs_tail (λ (x y : Bordered). IsEdgeBefore x.edge y.edge) b bs h))

pub project_layers : (a : Edge → Bool) (bs : List Bordered) → AreBorders bs → Even a (edges_in bs) → AreLayers (project a bs)
project_layers a bs h e = record {
  ascending = pairs_project a bs h.ascending;
  in_limit = subst (λ (es : List Edge). All (λ (f : Edge). AreInLimit f.p f.q) es) (sym (project_edges a bs)) h.in_limit;
  noded = subst (λ (es : List Edge). IsNoded es) (sym (project_edges a bs)) h.noded;
  even_a = λ v. degree_is (odd_edges A (project a bs)) v ∙ over_chosen a (λ f. is v f.p ⊕ is v f.q) bs ∙ e v;
  even_b = λ v. degree_is (odd_edges B (project a bs)) v ∙ over_none a (λ f. is v f.p ⊕ is v f.q) bs;
}

-- ---- what the theorems over choices ask of the edges
no_choice : Edge → Bool
no_choice e = false

none_even : (es : List Edge) → Even no_choice es
unfolding no_choice
none_even es v = par_none es

pub all_edges : (bs : List Bordered) → AreBorders bs → Edges (edges_in bs)
all_edges bs h = subst (λ (es : List Edge). Edges es) (project_edges no_choice bs) (edges_of_layers (project no_choice bs) (project_layers no_choice bs h (none_even (edges_in bs))))

-- ---- each edge stands once
pub distinct_in : (bs : List Bordered) → AllPairs (λ b c. IsEdgeBefore b.edge c.edge) bs → Distinct (edges_in bs)
distinct_in bs h = subst (λ (es : List Edge). Distinct es) (project_edges no_choice bs) (distinct (project no_choice bs) (pairs_project no_choice bs h))
