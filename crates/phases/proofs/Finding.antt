-- What is found in a rectangle among all segments, and in a strip.
use Rattle.std.proofs.Common.{◌≡◌, ℕ, ◌+◌, ◌<◌, List, [], refl, sym, subst, arith, length, get_or}
use Rattle.std.specs.Prelude.{◌↔◌, All, Contains}
use Rattle.std.proofs.lemmas.List.Elements.{Contains-get_or}
use Rattle.std.proofs.lemmas.Option.{get_or_from_slice_get, slice_get_within}
use Rattle.geom.specs.declared.point.Pt.{Pt}
use Rattle.geom.specs.declared.rect.Rect.{Rect}
use Rattle.geom.specs.declared.segment.Seg.{Seg}
use Rattle.geom.specs.Route.{Meets}
use Rattle.geom.proofs.Orders.{IsSortedOnce}
use Rattle.hot_region.specs.Candidates.{AreCandidates, AreOwnedHot, chosen}
use Rattle.hot_region.specs.Rects.{IsIn}
use Rattle.hot_region.proofs.ListLaws.{none_in}
use Rattle.routing.specs.declared.record.Record.{Record}
use Rattle.routing.specs.Found.{HasInnerRecords}
use Rattle.routing.specs.Pieces.{AreAllNumbers, IsPieceOf, IsRecord, candidates_of}
use Rattle.routing.specs.Recording.{AddsEnds}
use Rattle.routing.proofs.PieceLaws.{all_candidates, all_found, piece_found, piece_of_all}
use Rattle.routing.proofs.RecordOrder.{record_cmp}
use Rattle.linking.proofs.Gathering.{record_before}
use Rattle.phases.specs.Records.{AreRecordsIn}

module _ (segments : List Seg) (numbers : List ℕ) (are : AreAllNumbers segments numbers) where
  pub records_found : (tile : Rect) (pixels : List Pt) (inner found records : List Record) → AreOwnedHot (IsIn tile) (chosen segments numbers) pixels → HasInnerRecords (candidates_of segments numbers) pixels inner → AddsEnds tile segments numbers inner found
      → IsSortedOnce record_cmp found records → AreRecordsIn (IsIn tile) segments records
  records_found tile pixels inner found records hot has ends once = record {
    ascending = λ i j d a b. record_before segments (get_or records i d) (get_or records j d) (known i d (omega (arith, a, b))) (known j d b) (once.ascending i j d a b);
    exact = piece.exact;
  }
    where
      piece : IsPieceOf (IsIn tile) segments (length pixels) records
      piece = piece_of_all (IsIn tile) segments numbers tile (candidates_of segments numbers) (length pixels) records (λ c. (λ h. h, λ h. h)) (all_candidates segments numbers are (IsIn tile)) refl
          (piece_found segments numbers tile pixels (candidates_of segments numbers) found records (length pixels) hot refl (all_found segments numbers tile pixels inner found hot has ends) once refl)

      known : (i : ℕ) (d : Record) → i < length records → IsRecord segments (get_or records i d)
      known i d l = ((piece.exact (get_or records i d)).0 (Contains-get_or records i d l)).0

-- ---- in another region that has the same of the pixels that segments meet
module _ (In There : Pt → Type 0) (segments : List Seg) where
  pub records_there : (records : List Record) → ((s : Seg) (c : Pt) → Contains segments s → Meets s c → In c ↔ There c) → AreRecordsIn In segments records → AreRecordsIn There segments records
  records_there records same are = record {
    ascending = are.ascending;
    exact = λ r. (
      (λ h. let (known, inside) = (are.exact r).0 h in (known, (met r known).0 inside)),
      (λ (known, inside). (are.exact r).1 (known, (met r known).1 inside)),
    );
  }
    where
      met : (r : Record) → IsRecord segments r → In r.pixel ↔ There r.pixel
      met r known = same known.s r.pixel (r.segment, slice_get_within segments r.segment known.s known.is_at, get_or_from_slice_get segments r.segment known.s known.s known.is_at) known.met

pub none_there : (There : Pt → Type 0) (segments : List Seg) → ((s : Seg) (c : Pt) → Contains segments s → Meets s c → There c → ⊥) → AreRecordsIn There segments []
none_there There segments none = record {
  ascending = λ i j d a b. absurd (omega (arith, b));
  exact = λ r. (
    (λ h. absurd (none_in r h)),
    (λ (known, inside). absurd (none known.s r.pixel (r.segment, slice_get_within segments r.segment known.s known.is_at, get_or_from_slice_get segments r.segment known.s known.s known.is_at) known.met inside)),
  );
}
