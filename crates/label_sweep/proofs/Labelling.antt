-- The labels round one vertex.
use Rattle.std.proofs.Common.{◌≡◌, inl, inr, List, [], ◌∷◌, ◌++◌, map, sym, ap, ◌∙◌, subst, append_assoc}
use Rattle.std.specs.List.{Contains, All}
use Rattle.std.proofs.lemmas.List.Elements.{All-contains, All-nil, All-cons}
use Rattle.geom.specs.declared.point.Pt.{Pt}
use Rattle.geom.specs.declared.segment.Source.TheVariants.{A, B}
use Rattle.geom.specs.declared.edge.Edge.{Edge}
use Rattle.geom.specs.declared.edge.Counted.{Counted}
use Rattle.geom.specs.Rounded.{edges_of}
use Rattle.geom.specs.ResultEdges.{left_side, right_side}
use Rattle.geom.proofs.Lists.{In, in_contains, contains_in, map_in}
use Rattle.points_law.specs.Law.{AreLayers}
use Rattle.label_sweep.specs.declared.parities.Parities.{Parities}
use Rattle.label_sweep.specs.declared.standing.Spoke.{Spoke}
use Rattle.label_sweep.specs.Status.{AreSpokes}
use Rattle.label_sweep.specs.Labels.{parities_at, beyond, IsLabelled, labels_from, BeginsWith, TurnIsLabelled}
use Rattle.label_sweep.proofs.Words.{left_of_next, right_is_beyond}

abbrev pub Follows : List Counted → Edge → List Edge → Type 0
Follows cs g [] = Unit {0}
Follows cs g (k ∷ rest) = parities_at cs (right_side g.p g.q) ≡ parities_at cs (left_side k.p k.q)

abbrev pub Chained : List Counted → List Edge → Type 0
Chained cs [] = Unit {0}
Chained cs (g ∷ rest) = Follows cs g rest × Chained cs rest

follows : (cs : List Counted) → AreLayers cs → (v : Pt) (before : List Edge) (g k : Edge) (rest : List Edge) → AreSpokes (edges_of cs) v (before ++ (g ∷ (k ∷ rest)))
    → parities_at cs (right_side g.p g.q) ≡ parities_at cs (left_side k.p k.q)
follows cs h v before g k rest s = λ i. record { a = sym (left_of_next cs h v before g k rest s A) i; b = sym (left_of_next cs h v before g k rest s B) i }

chained : (cs : List Counted) → AreLayers cs → (v : Pt) (before rest : List Edge) → AreSpokes (edges_of cs) v (before ++ rest) → Chained cs rest
chained cs h v before [] s = tt
chained cs h v before (g ∷ []) s = (tt, tt)
chained cs h v before (g ∷ (k ∷ rest)) s = (
  follows cs h v before g k rest s,
  chained cs h v (before ++ (g ∷ [])) (k ∷ rest) (subst (λ (t : List Edge). AreSpokes (edges_of cs) v t) (sym (append_assoc before (g ∷ []) (k ∷ rest))) s),
)

label_is : (cs : List Counted) → AreLayers cs → (s : Spoke) → Contains cs s.one → (at : Parities) → at ≡ parities_at cs (left_side s.one.edge.p s.one.edge.q)
    → IsLabelled cs (record { edge = s.one.edge; left = at; right = beyond at s.one })
label_is cs h s i at e = record {
  inside = in_contains (edges_of cs) s.one.edge (map_in (λ c. c.edge) cs s.one (contains_in cs s.one i));
  left = e;
  right = ap (λ (t : Parities). beyond t s.one) e ∙ sym (right_is_beyond cs h s.one i);
}

pub labelled : (cs : List Counted) → AreLayers cs → (ss : List Spoke) → ((s : Spoke) → In s ss → Contains cs s.one) → Chained cs (map (λ s. s.one.edge) ss)
    → (at : Parities) → BeginsWith cs at (map (λ s. s.one.edge) ss) → All (IsLabelled cs) (labels_from at ss)
labelled cs h [] i c at b = All-nil (IsLabelled cs)
labelled cs h (s ∷ []) i c at b = All-cons (IsLabelled cs) (record { edge = s.one.edge; left = at; right = beyond at s.one }) [] (label_is cs h s (i s (inl (λ j. s))) at b) (All-nil (IsLabelled cs))
labelled cs h (s ∷ (m ∷ ss)) i c at b = All-cons (IsLabelled cs) (record { edge = s.one.edge; left = at; right = beyond at s.one }) (labels_from (beyond at s.one) (m ∷ ss)) (label_is cs h s (i s (inl (λ j. s))) at b)
    (labelled cs h (m ∷ ss) (λ t j. i t (inr j)) c.1 (beyond at s.one) (ap (λ (t : Parities). beyond t s.one) b ∙ sym (right_is_beyond cs h s.one (i s (inl (λ j. s)))) ∙ c.0))

pub turn_is_labelled : TurnIsLabelled
turn_is_labelled cs h v ss s i at b = labelled cs h ss (λ t j. All-contains (λ (t : Spoke). Contains cs t.one) ss t i (in_contains ss t j)) (chained cs h v [] (map (λ s. s.one.edge) ss) s) at b
