-- Which verdicts were made from what their tiles have.
use Rattle.std.proofs.Common.{◌≡◌, Bool, true, false, MatchBool, ℕ, ◌+◌, ◌<◌, List, refl, sym, ◌∙◌, ap, arith, subst, length, get_or, take, ◌↔◌, ⊎_elim}
use Rattle.std.proofs.Math.Logic.{∥∥₁_map}
use Rattle.std.specs.Option.{option_map}
use Rattle.std.specs.Prelude.{All, IsTrue, Some, slice_get}
use Rattle.std.proofs.lemmas.Option.{slice_get_cases}
use Rattle.geom.specs.declared.point.Pt.{Pt}
use Rattle.geom.specs.declared.rect.Rect.{Rect}
use Rattle.geom.specs.declared.edge.Edge.{Edge}
use Rattle.geom.specs.declared.edge.Counted.{Counted}
use Rattle.geom.specs.Box.{IsInBox}
use Rattle.geom.specs.Rounded.{edges_of}
use Rattle.geom.proofs.Points.{both_and, same_point_of}
use Rattle.grid.specs.Tiles.{Tiling, Owns}
use Rattle.hot_region.specs.Rects.{IsIn}
use Rattle.linking.proofs.Boxes.{in_same_box}
use Rattle.chain_gather.proofs.Near.{one_rect}
use Rattle.chain_gather.proofs.OwnLaws.{same_rect}
use Rattle.chain_gather.proofs.Picked.{AllPick, picked_differs, picked_more}
use Rattle.noding_test.specs.declared.verdicts.Verdict.{Verdict}
use Rattle.noding_test.specs.Verdicts.{chosen_edges, edge_at, AreNear, IsLeastPair, IsOwnBad}
use Rattle.noding_test.specs.Passes.{IsOwnVerdict}
use Rattle.noding_test.proofs.NearEdges.{least_by, same_bad}

-- ---- the edges of some numbers
-- the edge of a number
edge_is : (counted : List Counted) (n : ℕ) (c : Counted) → slice_get counted n ≡ Some c → edge_at counted n ≡ Some c.edge
edge_is counted n c e = ap (option_map (λ (d : Counted). d.edge)) e

pub all_pick : (counted : List Counted) (numbers : List ℕ) → All (λ n. n < length counted) numbers → AllPick (edge_at counted) numbers
all_pick counted numbers h = λ k d l. let n = get_or numbers k d in ⊎_elim (λ p. (p.0.edge, edge_is counted n p.0 p.2)) (λ p. absurd (let m = h k d l in let q = p.0 in omega arith)) (slice_get_cases counted n).1

-- ---- one edge after another
module _ (counted : List Counted) (numbers : List ℕ) (edges : List Edge) (i n : ℕ) (c : Counted) (x : Edge) (low : i < length numbers) (high : i < length edges) (number_is : n ≡ get_or numbers i n) (at : slice_get counted n ≡ Some c) (item_is : x ≡ get_or edges i x) where
  pub near_more : x ≡ c.edge → take i edges ≡ chosen_edges counted (take i numbers) → take (i + 1) edges ≡ chosen_edges counted (take (i + 1) numbers)
  near_more = picked_more (edge_at counted) numbers edges i n c.edge x low high number_is (edge_is counted n c at) item_is

  pub near_differs : All (λ k. k < length counted) numbers → (x ≡ c.edge → ⊥) → edges ≡ chosen_edges counted numbers → ⊥
  near_differs below = picked_differs (edge_at counted) numbers edges i n c.edge x low high number_is (edge_is counted n c at) item_is (all_pick counted numbers below)

-- ---- own verdicts
module _ {A : Type 0} (g : Tiling) (k : ℕ) (counted : List Counted) (numbers : List ℕ) (verdict : Verdict A) (rect : Rect) (exact : (p : Pt) → IsInBox rect.lo rect.hi p ↔ Owns g k p) where
  -- the rectangle is the tile's
  pub own_by_edges : (edges : List Edge) (b : Bool) → verdict.tile.lo ≡ rect.lo → verdict.tile.hi ≡ rect.hi → edges ≡ verdict.edges.items → IsTrue b ↔ (edges ≡ chosen_edges counted numbers)
      → MatchBool b (IsOwnVerdict g k counted numbers verdict) (¬ (IsOwnVerdict g k counted numbers verdict))
  own_by_edges edges true lo hi is h = record {
    tile = λ p. (
      (λ l. (exact p).0 (in_same_box verdict.tile.lo verdict.tile.hi rect.lo rect.hi p lo hi l)),
      (λ o. in_same_box rect.lo rect.hi verdict.tile.lo verdict.tile.hi p (sym lo) (sym hi) ((exact p).1 o)),
    );
    edges = sym is ∙ h.0 refl;
  }
  own_by_edges edges false lo hi is h = λ own. let e = h.1 (is ∙ own.edges) in absurd (cc)

  -- it is another one
  pub own_by_rect : (b : Bool) → b ≡ same_rect verdict.tile rect → b ≡ false → MatchBool b (IsOwnVerdict g k counted numbers verdict) (¬ (IsOwnVerdict g k counted numbers verdict))
  own_by_rect b e f = subst (λ (v : Bool). MatchBool v (IsOwnVerdict g k counted numbers verdict) (¬ (IsOwnVerdict g k counted numbers verdict))) (sym f) (λ own.
      let r = one_rect verdict.tile rect (λ p. (λ l. (exact p).1 ((own.tile p).0 l), λ l. (own.tile p).1 ((exact p).0 l))) in
      let t : same_rect verdict.tile rect ≡ true = both_and _ _ (same_point_of verdict.tile.lo rect.lo r.0) (same_point_of verdict.tile.hi rect.hi r.1) in
      absurd (cc))

-- an own verdict has the least bad pair of its tile
pub own_verdict_is : {A : Type 0} (g : Tiling) (k : ℕ) (counted : List Counted) (numbers : List ℕ) (verdict : Verdict A) → AreNear g k counted numbers → IsOwnVerdict g k counted numbers verdict → ∥ IsLeastPair (IsOwnBad (Owns g k) (edges_of counted)) verdict.bad ∥₁
own_verdict_is g k counted numbers verdict near own =
    ∥∥₁_map verdict.exact (λ h. least_by _ _ verdict.bad (same_bad g k verdict.tile counted numbers own.tile near) (subst (λ (es : List Edge). IsLeastPair (IsOwnBad (IsIn verdict.tile) es) verdict.bad) own.edges h))
