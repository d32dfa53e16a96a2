-- The lines that a strip is handed, of all parts, are those of all segments that reach it; and these are the segments of all rings.
use Rattle.std.proofs.Common.{◌≡◌, ◌+◌, ◌<◌, ◌++◌, ◌∷◌, ◌∙◌, [], ℕ, List, ap, ap₂, arith, filter, flat_map, get_or, length, map, not, refl, subst, sym}
use Rattle.std.specs.List.{All}
use Rattle.std.proofs.Math.IntN.{ℤ}
use Rattle.std.proofs.lemmas.List.{map-append}
use Rattle.std.proofs.lemmas.List.Concat.{flat_map-append}
use Rattle.std.proofs.lemmas.List.Elements.{All-append, All-nil, filter-append}
use Rattle.geom.specs.declared.point.Pt.{Pt}
use Rattle.geom.specs.declared.segment.Seg.{Seg}
use Rattle.geom.specs.declared.segment.Source.{Source}
use Rattle.geom.specs.declared.segment.Source.TheVariants.{A, B}
use Rattle.geom.specs.Limit.{AreInLimit}
use Rattle.geom.specs.Segments.{AreSegments, layer_steps, parts, ring_steps, same_point, tagged}
use Rattle.strips_law.specs.declared.line.Line.{Line}
use Rattle.strips_law.specs.Strips.{AreLinesFrom, lines_in}
use Rattle.strips_law.proofs.Rounded.{lines_follow}
use Rattle.strip_map_law.specs.Whole.{AreScattered, Part, lines_for, rings_of, segments_of}

-- ---- lines
pub record AreJoined (cuts : List ℤ) (first : ℕ) (ps : List Part) : Type 0 where
  pub lines : List Line
  pub are_lines : AreLinesFrom first (segments_of ps) lines
  pub in_strip : (strip : ℕ) → strip < length cuts + 1 → lines_for strip ps ≡ lines_in cuts strip lines

-- those of two lists of segments
both_lines : (cuts : List ℤ) (first : ℕ) (ss ts : List Seg) (ls ms handed more : List Line) (strip : ℕ) → AreLinesFrom first ss ls → AreLinesFrom (first + length ss) ts ms
    → handed ≡ lines_in cuts strip ls → more ≡ lines_in cuts strip ms → handed ++ more ≡ lines_in cuts strip (ls ++ ms)
both_lines cuts first ss ts ls ms handed more strip h k e f =
    ap₂ (λ (xs ys : List Line). xs ++ ys) e f ∙ sym ((lines_follow first ss ts ls ms h k).1 cuts strip)

pub lines_joined : (cuts : List ℤ) (layer : Source) (first : ℕ) (ps : List Part) → AreScattered cuts layer first ps → AreJoined cuts first ps
lines_joined cuts layer first [] h = record { lines = []; are_lines = tt; in_strip = λ strip l. refl }
lines_joined cuts layer first (p ∷ ps) h =
    let here = h.0 in
    let rest = lines_joined cuts layer (first + length p.segments) ps h.1 in
    record {
      lines = here.lines ++ rest.lines;
      are_lines = (lines_follow first p.segments (segments_of ps) here.lines rest.lines here.are_lines rest.are_lines).0;
      in_strip = λ strip l. both_lines cuts first p.segments (segments_of ps) here.lines rest.lines (get_or p.lists strip []) (lines_for strip ps) strip here.are_lines rest.are_lines
          (here.by_strip.each strip (subst (λ (n : ℕ). strip < n) (sym here.by_strip.one_each) l)) (rest.in_strip strip l);
    }

pub both_joined : (cuts : List ℤ) (ps qs : List Part) → AreScattered cuts A 0 ps → AreScattered cuts B (length (segments_of ps)) qs → AreJoined cuts 0 (ps ++ qs)
both_joined cuts ps qs h k =
    let a = lines_joined cuts A 0 ps h in
    let b = lines_joined cuts B (length (segments_of ps)) qs k in
    let from : length (segments_of ps) ≡ 0 + length (segments_of ps) = omega arith in
    let of_b : AreLinesFrom (0 + length (segments_of ps)) (segments_of qs) b.lines = subst (λ (n : ℕ). AreLinesFrom n (segments_of qs) b.lines) from b.are_lines in
    record {
      lines = a.lines ++ b.lines;
      are_lines = subst (λ (ss : List Seg). AreLinesFrom 0 ss (a.lines ++ b.lines)) (sym (flat_map-append (λ (p : Part). p.segments) ps qs))
          (lines_follow 0 (segments_of ps) (segments_of qs) a.lines b.lines a.are_lines of_b).0;
      in_strip = λ strip l. flat_map-append (λ (p : Part). get_or p.lists strip []) ps qs
          ∙ both_lines cuts 0 (segments_of ps) (segments_of qs) a.lines b.lines (lines_for strip ps) (lines_for strip qs) strip a.are_lines of_b (a.in_strip strip l) (b.in_strip strip l);
    }

-- ---- segments
steps_append : (rings more : List (List Pt)) → layer_steps (rings ++ more) ≡ layer_steps rings ++ layer_steps more
steps_append rings more = ap (filter (λ (s : Pt × Pt). not (same_point s.0 s.1))) (flat_map-append ring_steps rings more)
    ∙ filter-append (λ (s : Pt × Pt). not (same_point s.0 s.1)) (flat_map ring_steps rings) (flat_map ring_steps more)

layer_segments : (cuts : List ℤ) (layer : Source) (first : ℕ) (ps : List Part) → AreScattered cuts layer first ps → map parts (segments_of ps) ≡ map (tagged layer) (layer_steps (rings_of ps))
layer_segments cuts layer first [] h = refl
layer_segments cuts layer first (p ∷ ps) h =
    map-append parts p.segments (segments_of ps)
    ∙ ap₂ (λ (xs ys : List (Pt × Pt × Source)). xs ++ ys) h.0.are_segments (layer_segments cuts layer (first + length p.segments) ps h.1)
    ∙ sym (map-append (tagged layer) (layer_steps p.rings) (layer_steps (rings_of ps)))
    ∙ ap (map (tagged layer)) (sym (steps_append p.rings (rings_of ps)))

layer_limits : (cuts : List ℤ) (layer : Source) (first : ℕ) (ps : List Part) → AreScattered cuts layer first ps → All (λ s. AreInLimit s.a s.b) (segments_of ps)
layer_limits cuts layer first [] h = All-nil (λ (s : Seg). AreInLimit s.a s.b)
layer_limits cuts layer first (p ∷ ps) h = All-append (λ (s : Seg). AreInLimit s.a s.b) p.segments (segments_of ps) h.0.in_limit (layer_limits cuts layer (first + length p.segments) ps h.1)

module _ (cuts : List ℤ) (ps qs : List Part) (h : AreScattered cuts A 0 ps) (k : AreScattered cuts B (length (segments_of ps)) qs) where
  joined_is : segments_of (ps ++ qs) ≡ segments_of ps ++ segments_of qs
  joined_is = flat_map-append (λ (p : Part). p.segments) ps qs

  pub are_segments : AreSegments (rings_of ps) (rings_of qs) (segments_of (ps ++ qs))
  are_segments = ap (map parts) joined_is ∙ map-append parts (segments_of ps) (segments_of qs)
      ∙ ap₂ (λ (xs ys : List (Pt × Pt × Source)). xs ++ ys) (layer_segments cuts A 0 ps h) (layer_segments cuts B (length (segments_of ps)) qs k)

  pub are_in_limit : All (λ s. AreInLimit s.a s.b) (segments_of (ps ++ qs))
  are_in_limit = subst (λ (ss : List Seg). All (λ s. AreInLimit s.a s.b) ss) (sym joined_is)
      (All-append (λ (s : Seg). AreInLimit s.a s.b) (segments_of ps) (segments_of qs) (layer_limits cuts A 0 ps h) (layer_limits cuts B (length (segments_of ps)) qs k))
