-- Which pieces were made from what their tiles have.
use Rattle.std.proofs.Common.{◌≡◌, Bool, true, false, MatchBool, List, ℕ, refl, sym, ◌∙◌, subst, ◌↔◌}
use Rattle.std.proofs.Math.Logic.{∥∥₁_map}
use Rattle.std.specs.Prelude.{◌&&◌, IsTrue}
use Rattle.geom.specs.declared.point.Pt.{Pt}
use Rattle.geom.specs.declared.rect.Rect.{Rect}
use Rattle.geom.specs.declared.segment.Seg.{Seg}
use Rattle.geom.specs.Box.{IsInBox}
use Rattle.geom.specs.Segments.{same_point}
use Rattle.geom.proofs.Points.{both_and, same_point_of}
use Rattle.grid.specs.Tiles.{Tiling, Owns}
use Rattle.hot_region.specs.Candidates.{AreCandidates}
use Rattle.routing.specs.declared.record.Candidate.{Candidate}
use Rattle.routing.specs.declared.pieces.Piece.{Piece}
use Rattle.routing.specs.Pieces.{candidates_of, IsPieceOf}
use Rattle.routing.proofs.PieceLaws.{piece_of_all}
use Rattle.linking.proofs.Boxes.{in_same_box}
use Rattle.chain_gather.specs.Gathered.{AreTileCandidates, IsOwn}
use Rattle.chain_gather.proofs.Near.{one_candidates, one_rect}

abbrev pub same_rect : Rect → Rect → Bool
same_rect r q = same_point r.lo q.lo && same_point r.hi q.hi

module _ {A : Type 0} (g : Tiling) (segments : List Seg) (k : ℕ) (piece : Piece A) (rect : Rect) (exact : (p : Pt) → IsInBox rect.lo rect.hi p ↔ Owns g k p) where
  -- the rectangle is the tile's
  pub own_by_candidates : (numbers : List ℕ) (list : List Candidate) (b : Bool) → AreTileCandidates g segments k (candidates_of segments numbers) → piece.tile.lo ≡ rect.lo → piece.tile.hi ≡ rect.hi → list ≡ piece.candidates.items
      → IsTrue b ↔ (list ≡ candidates_of segments numbers) → MatchBool b (IsOwn g segments k piece) (¬ (IsOwn g segments k piece))
  own_by_candidates numbers list true near lo hi is h = record {
    tile = λ p. (
      (λ l. (exact p).0 (in_same_box piece.tile.lo piece.tile.hi rect.lo rect.hi p lo hi l)),
      (λ o. in_same_box rect.lo rect.hi piece.tile.lo piece.tile.hi p (sym lo) (sym hi) ((exact p).1 o)),
    );
    candidates = subst (λ (cs : List Candidate). AreTileCandidates g segments k cs) (sym (h.0 refl) ∙ is) near;
  }
  own_by_candidates numbers list false near lo hi is h = λ own. let e = h.1 (is ∙ one_candidates g segments k piece.candidates.items (candidates_of segments numbers) own.candidates near) in absurd (cc)

  -- it is another one
  pub own_by_rect : (b : Bool) → b ≡ same_rect piece.tile rect → b ≡ false → MatchBool b (IsOwn g segments k piece) (¬ (IsOwn g segments k piece))
  own_by_rect b e f = subst (λ (v : Bool). MatchBool v (IsOwn g segments k piece) (¬ (IsOwn g segments k piece))) (sym f) (λ own.
      let r = one_rect piece.tile rect (λ p. (λ l. (exact p).1 ((own.tile p).0 l), λ l. (own.tile p).1 ((exact p).0 l))) in
      let t : same_rect piece.tile rect ≡ true = both_and _ _ (same_point_of piece.tile.lo rect.lo r.0) (same_point_of piece.tile.hi rect.hi r.1) in
      absurd (cc))

-- an own piece has the hot pixels and the records of its tile
pub own_piece_is : {A : Type 0} (g : Tiling) (segments : List Seg) (k : ℕ) (numbers : List ℕ) (piece : Piece A) → AreCandidates (Owns g k) segments numbers → AreTileCandidates g segments k (candidates_of segments numbers) → IsOwn g segments k piece
    → ∥ IsPieceOf (Owns g k) segments piece.hot piece.records.items ∥₁
own_piece_is g segments k numbers piece are near own =
    ∥∥₁_map piece.exact (λ h. piece_of_all (Owns g k) segments numbers piece.tile piece.candidates.items piece.hot piece.records.items own.tile are (one_candidates g segments k piece.candidates.items (candidates_of segments numbers) own.candidates near) h)
