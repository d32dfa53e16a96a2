-- Row edges of which each set was looked at.
use Rattle.std.proofs.Common.{◌≡◌, ℕ, ◌+◌, ◌<◌, ◌≤◌, List, [], ◌∷◌, length, get_or, take, sym, subst, add-one}
use Rattle.std.proofs.Math.Seq.{take-suc}
use Rattle.std.specs.List.{All, AllPairs}
use Rattle.std.proofs.lemmas.List.{take_all}
use Rattle.std.proofs.lemmas.List.Elements.{All-append, All-cons, All-nil, Contains-get_or}
use Rattle.geom.specs.Directed.{IsDirectedBefore}
use Rattle.geom.proofs.Lists.{contains_in}
use Rattle.cover_sets.specs.Sets.{AreSets}
use Rattle.rows.specs.declared.edges.RowEdge.{RowEdge}
use Rattle.rows.specs.declared.runs.RowSet.{RowSet}
use Rattle.rows.specs.Made.{AreReady, IsBound}
use Rattle.rows.specs.RowEdges.{IsRowEdgeBefore}
use Rattle.rows.specs.RowSets.{AreRowSets, edges_at}
use Rattle.rows.proofs.Making.{row_ascends}

pub edges_ascend : (edges es : List RowEdge) (all rs : List RowSet) → es ≡ edges → rs ≡ all → AllPairs IsRowEdgeBefore edges → AreRowSets edges all → (k : ℕ) (d : RowSet) → k < length rs → AllPairs IsDirectedBefore (edges_at es (get_or rs k d))
edges_ascend edges es all rs e f up are k d h =
    let here : AreRowSets es rs = subst (λ (x : List RowEdge × List RowSet). AreRowSets x.0 x.1) (λ i. (sym e i, sym f i)) are in
    row_ascends es rs (subst (AllPairs IsRowEdgeBefore) (sym e) up) here (get_or rs k d) (contains_in rs (get_or rs k d) (Contains-get_or rs k d h))

pub one_more_bound : (P : RowSet → Type 0) (rs : List RowSet) (k : ℕ) (d : RowSet) → k < length rs → All P (take k rs) → P (get_or rs k d) → All P (take (k + 1) rs)
one_more_bound P rs k d h all one = rw (add-one, take-suc rs k d h) (All-append P (take k rs) (get_or rs k d ∷ []) all (All-cons P (get_or rs k d) [] one (All-nil P)))

pub all_ready : (sets : List (List ℕ)) (edges : List RowEdge) (all rs : List RowSet) (k : ℕ) → rs ≡ all → length rs ≤ k → AreSets sets → AreRowSets edges all → All (IsBound sets edges) (take k rs) → AreReady sets edges all
all_ready sets edges all rs k e h are row_sets bound = record {
  are_sets = are;
  are_row_sets = row_sets;
  bound = subst (All (IsBound sets edges)) e (subst (All (IsBound sets edges)) (take_all k rs h) bound);
}
