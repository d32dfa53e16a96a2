-- Lists of the same edges are noded alike, and have the same least bad pair.
use Rattle.std.proofs.Common.{◌≡◌, ◌∙◌, ◌↔◌, ◌<◌, ℕ, List, ap, arith, get_or, inl, inr, length, subst, sym}
use Rattle.std.specs.Prelude.{All, AllPairs, Contains, Err, MatchResult, Ok, Result}
use Rattle.std.proofs.lemmas.List.{get_or-map, length-map}
use Rattle.std.proofs.lemmas.List.Elements.{All-contains, All-contains_itself}
use Rattle.geom.specs.EdgeOrder.{IsEdgeBefore}
use Rattle.geom.specs.Noded.{IsLeastBad, IsNoded}
use Rattle.geom.specs.Rounded.{edges_of}
use Rattle.geom.specs.declared.edge.Counted.{Counted}
use Rattle.geom.specs.declared.edge.Edge.{Edge}
use Rattle.geom.specs.declared.fault.Fault.{Fault}
use Rattle.geom.specs.declared.fault.Fault.TheVariants.{NotNoded as Crossing}
use Rattle.linking.specs.declared.noded.Noded.{Noded}
use Rattle.linking.specs.declared.rounded.Rounded.{Rounded}
use Rattle.noding_test.specs.Passes.{IsAllOf, IsTestFault}
use Rattle.edge_test.specs.Tested.{IsEdgesFault}
use Rattle.edge_test.specs.declared.fault.TextFault.{TextFault}
use Rattle.edge_test.specs.declared.fault.TextFault.TheVariants.{BadWorkers, TooLong, Line, NotNoded, Memory}

-- the same edges, in any order and any number
abbrev pub AreAlike : List Edge → List Edge → Type 0
AreAlike xs ys = (e : Edge) → Contains xs e ↔ Contains ys e

pub noded_alike : (xs ys : List Edge) → AreAlike xs ys → IsNoded xs → IsNoded ys
noded_alike xs ys same h = λ e f i j apart. h e f ((same e).1 i) ((same f).1 j) apart

pub least_alike : (xs ys : List Edge) → AreAlike xs ys → (e f : Edge) → IsLeastBad xs e f → IsLeastBad ys e f
least_alike xs ys same e f h = record {
  e_in = (same e).0 h.e_in;
  f_in = (same f).0 h.f_in;
  ordered = h.ordered;
  bad = h.bad;
  least = λ g k i j before bad. h.least g k ((same g).1 i) ((same k).1 j) before bad;
}

-- the order of counted edges is that of their edges
pub counted_ascending : (counted : List Counted) → AllPairs IsEdgeBefore (edges_of counted) → AllPairs (λ c d. IsEdgeBefore c.edge d.edge) counted
counted_ascending counted h = λ i j d a b.
    let edge = λ (c : Counted). c.edge in
    subst (λ (p : Edge × Edge). IsEdgeBefore p.0 p.1)
    (λ k. (get_or-map edge counted i d d.edge (before i j a b) k, get_or-map edge counted j d d.edge b k))
    (h i j d.edge a (rw (length-map counted edge) b))
  where
    before : (i j : ℕ) → i < j → j < length counted → i < length counted
    before i j a b = omega arith

-- what holds of all edges holds of each counted one's
pub counted_all : (P : Edge → Type 0) (counted : List Counted) → All P (edges_of counted) → All (λ c. P c.edge) counted
counted_all P counted h = λ i d lt.
    let edge = λ (c : Counted). c.edge in
    subst P (get_or-map edge counted i d d.edge lt) (h i d.edge (rw (length-map counted edge) lt))

-- what holds of all edges holds of all of the same ones
pub all_alike : (P : Edge → Type 0) (xs ys : List Edge) → AreAlike xs ys → All P xs → All P ys
all_alike P xs ys same h = λ i d lt. All-contains P xs (get_or ys i d) h ((same (get_or ys i d)).1 (All-contains_itself ys i d lt))

-- ---- what the noding test tells

abbrev pub IsLeastOf : List Edge → Fault → Type 0
IsLeastOf edges (Crossing e f) = IsLeastBad edges e f
IsLeastOf edges fault = ⊥

pub told : (edges : List Edge) (fault : Fault) (e f : Edge) → IsTestFault edges fault → fault ≡ Crossing e f → IsLeastBad edges e f
told edges fault e f (inl memory) is = absurd (cc)
told edges fault e f (inr h) is =
    let (g, k, at, least) = h in
    subst (IsLeastOf edges) (sym at ∙ is) least

pub passed : {A : Type 0} (rounded : Rounded A) (noded : Noded A) (edges : List Edge) → IsAllOf rounded noded → edges_of rounded.edges.items ≡ edges → IsNoded edges
passed rounded noded edges h same = subst IsNoded (ap (λ v. edges_of v.items) h.0 ∙ same) noded.noded

-- what is told of edges is told of the same ones
pub alike_tested : (xs ys : List Edge) → AreAlike xs ys → (r : Result (Unit {0}) TextFault) → MatchResult r (λ _. IsNoded xs) (IsEdgesFault xs) → MatchResult r (λ _. IsNoded ys) (IsEdgesFault ys)
alike_tested xs ys same (Ok _) h = noded_alike xs ys same h
alike_tested xs ys same (Err BadWorkers) h = absurd h
alike_tested xs ys same (Err TooLong) h = absurd h
alike_tested xs ys same (Err (Line number fault)) h = absurd h
alike_tested xs ys same (Err (NotNoded e f)) h = least_alike xs ys same e f h
alike_tested xs ys same (Err Memory) h = tt
