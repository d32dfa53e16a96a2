-- What the lines of a strip tell of it.
use Rattle.std.proofs.Common.{◌≡◌, ℕ, zero, suc, ◌+◌, ◌<◌, List, [], ◌∷◌, refl, sym, ap, ◌∙◌, arith, length, get_or}
use Rattle.std.specs.Prelude.{All, None, Option, Some, ℤ, slice_get}
use Rattle.std.specs.List.{last_or}
use Rattle.std.proofs.lemmas.List.{get_or-map, length-map}
use Rattle.std.proofs.lemmas.List.Elements.{All-map}
use Rattle.std.proofs.lemmas.Option.{get_or_from_slice_get, slice_get-get_or, slice_get_within}
use Rattle.geom.specs.declared.point.Pt.{Pt}
use Rattle.geom.specs.declared.segment.Seg.{Seg}
use Rattle.geom.specs.declared.edge.Counted.{Counted}
use Rattle.geom.specs.Limit.{AreInLimit}
use Rattle.routing.specs.declared.record.Record.{Record}
use Rattle.linking.specs.declared.link.Link.{Link}
use Rattle.linking.specs.Links.{AreCounts, AreNeighbourLinks, layer_link}
use Rattle.strips_law.specs.declared.line.Line.{Line}
use Rattle.strips_law.specs.Strips.{IsInStrip, IsRouteIn, IsRoundedStrip, segments_of}
use Rattle.phases.specs.Nearest.{AreNearest, opens_at}
use Rattle.phases.specs.Records.{AreRecordsIn}
use Rattle.phases.specs.declared.nearest.Side.TheVariants.{Left, Right}
use Rattle.phases.proofs.Fronts.{is_back, is_front, opens_are}
use Rattle.phases.proofs.Over.{zip_at, zip_size}
use Rattle.phases.proofs.Parts.{are_parts, inner_is, parts}

item_at : {X : Type 0} (xs : List X) (k : ℕ) → k < length xs → (x : X) × (x ≡ get_or xs k x)
item_at [] k l = absurd (omega (arith, l))
item_at (x ∷ xs) zero l = (x, refl)
item_at (x ∷ xs) (suc k) l = item_at xs k (omega (arith, l))

pub all_limited : (lines : List Line) → All (λ l. AreInLimit l.segment.a l.segment.b) lines → All (λ s. AreInLimit s.a s.b) (segments_of lines)
all_limited lines h = All-map (λ (s : Seg). AreInLimit s.a s.b) (λ (l : Line). l.segment) lines h

module _ (cuts : List ℤ) (strip : ℕ) (lines : List Line) (records : List Record) (are : AreRecordsIn (IsInStrip cuts strip) (segments_of lines) records) where
  abbrev own_parts : List (List Pt)
  own_parts = parts (IsInStrip cuts strip) lines records are

  sized : length own_parts ≡ length lines
  sized = sym (zip_size _ lines own_parts (are_parts (IsInStrip cuts strip) lines records are))

  -- the k-th line, with its part
  record Kth (k : ℕ) (part : List Pt) : Type 0 where
    s : Seg
    at : slice_get (segments_of lines) k ≡ Some s
    is_part : IsRouteIn (IsInStrip cuts strip) (segments_of lines) s part

  kth : (k : ℕ) (part : List Pt) → slice_get own_parts k ≡ Some part → Kth k part
  kth k part on =
      let inside : k < length lines = let w = slice_get_within own_parts k part on in let s = sized in omega (arith, w, s) in
      let (l, is) = item_at lines k inside in
      record {
        s = l.segment;
        at = slice_get-get_or (segments_of lines) k l.segment (let n = length-map lines (λ (l : Line). l.segment) in omega (arith, n, inside)) ∙ ap Some (get_or-map (λ (l : Line). l.segment) lines k l l.segment inside ∙ ap (λ (l : Line). l.segment) (sym is));
        is_part = zip_at (λ (l : Line) (p : List Pt). IsRouteIn (IsInStrip cuts strip) (segments_of lines) l.segment p) lines own_parts k l part (are_parts (IsInStrip cuts strip) lines records are) inside is (sym (get_or_from_slice_get own_parts k part part on));
      }

  pub round_is : (links : List Link) (inner : List Counted) (firsts lasts : List (Option Record)) → AreNeighbourLinks layer_link (segments_of lines) records links → AreCounts links inner → AreNearest Left (length lines) records firsts → AreNearest Right (length lines) records lasts
      → IsRoundedStrip cuts strip lines inner (opens_at cuts strip lines firsts) (opens_at cuts (strip + 1) lines lasts)
  round_is links inner firsts lasts near counts first_are last_are = record {
    parts = own_parts;
    are_parts = are_parts (IsInStrip cuts strip) lines records are;
    inner_is = inner_is (IsInStrip cuts strip) lines records are links near inner counts;
    left_is = opens_are cuts strip (λ part. slice_get part 0) lines firsts own_parts first_are.one_each sized
        (λ k near part at on. let m = kth k part on in is_front cuts strip (segments_of lines) records are k m.s m.at part m.is_part near (first_are.each k near at));
    right_is = opens_are cuts (strip + 1) (λ part. last_or None part) lines lasts own_parts last_are.one_each sized
        (λ k near part at on. let m = kth k part on in is_back cuts strip (segments_of lines) records are k m.s m.at part m.is_part near (last_are.each k near at));
  }
