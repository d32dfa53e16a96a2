-- Edges by their ends.
use Rattle.std.proofs.Common.{◌≡◌, ℕ, zero, suc, ◌+◌, ◌<◌, List, [], ◌∷◌, ◌++◌, length, get_or, map, take, refl, sym, ap, ◌∙◌, subst}
use Rattle.std.specs.Prelude.{Some, slice_get}
use Rattle.std.specs.List.{All}
use Rattle.std.proofs.lemmas.List.{map-append, map_more}
use Rattle.std.proofs.lemmas.Option.{slice_get-get_or}
use Rattle.geom.specs.Limit.{AreInLimit}
use Rattle.geom.specs.Order.{IsBefore}
use Rattle.geom.specs.declared.edge.Edge.{Edge}
use Rattle.geom.proofs.Edges.{edge_path}
use Rattle.lane_tests.specs.Columns.{Ends}
use Rattle.lane_tests.specs.Edges.{AreEdges, anywhere, edges_of, ends}
use Rattle.lane_tests.proofs.Pairs.{each_push}

pub ends_tell : (e f : Edge) → ends e ≡ ends f → e ≡ f
ends_tell e f h = edge_path e f (ap (λ p. p.0) h) (ap (λ p. p.1) h)

-- the edges of pairs have these ends
pub ends-edges_of : (es : List Ends) (h : AreEdges es) → map ends (edges_of es h) ≡ es
ends-edges_of [] h = refl
ends-edges_of (e ∷ es) h = ap (λ ps. e ∷ ps) (ends-edges_of es (record { ordered = λ k. h.ordered (suc k) }))

pub edges_grown : (old now : List Ends) (e : Edge) → AreEdges old → now ≡ old ++ ends e ∷ [] → AreEdges now
edges_grown old now e h f = rw f (record { ordered = each_push anywhere (λ e. IsBefore e.0 e.1) old (ends e) h.ordered e.ordered })

-- the columns of these edges
pub columns_are : (es : List Ends) (h : AreEdges es) (edges : List Edge) → edges_of es h ≡ edges → map ends edges ≡ es
columns_are es h edges e = sym (ap (map ends) e) ∙ ends-edges_of es h

-- ---- chosen edges
pub in_limit_at : (edges : List Edge) (i : ℕ) (e : Edge) → All (λ e. AreInLimit e.p e.q) edges → i < length edges → e ≡ get_or edges i e → AreInLimit e.p e.q
in_limit_at edges i e h l k = subst (λ (e : Edge). AreInLimit e.p e.q) (sym k) (h i e l)

pub chosen_more : (edges : List Edge) (numbers : List ℕ) (i number : ℕ) (e : Edge) (old now : List Edge) → i < length numbers → number ≡ get_or numbers i 0 → number < length edges → e ≡ get_or edges number e
    → map (λ e. Some e) old ≡ map (slice_get edges) (take i numbers) → now ≡ old ++ e ∷ [] → map (λ e. Some e) now ≡ map (slice_get edges) (take (i + 1) numbers)
chosen_more edges numbers i number e old now l n m at h f =
    ap (map (λ e. Some e)) f ∙ map-append (λ e. Some e) old (e ∷ []) ∙ (λ j. h j ++ last j ∷ []) ∙ sym (map_more (slice_get edges) numbers i 0 l)
  where
    last : Some e ≡ slice_get edges (get_or numbers i 0)
    last = ap (λ e. Some e) at ∙ sym (slice_get-get_or edges number e m) ∙ ap (slice_get edges) n
