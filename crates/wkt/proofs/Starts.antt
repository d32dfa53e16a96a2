-- The starts of geometries that are gathered.
use Rattle.std.proofs.Common.{◌≡◌, ℕ, ◌+◌, ◌<◌, ◌≤◌, Bool, true, false, List, [], ◌∷◌, ◌++◌, length, get_or, map, take, ◌-◌, None, Ok, refl, sym, ap, subst, ◌∙◌}
use Rattle.std.proofs.lemmas.List.{append-nil, drop_all, length-map}
use Rattle.std.proofs.lemmas.Option.{same_Some}
use Rattle.geom.specs.declared.point.Pt.{Pt}
use Rattle.wkt.specs.declared.outline.Outline.{Outline}
use Rattle.wkt.specs.declared.reader.Reader.{Reader}
use Rattle.wkt.specs.declared.reader.Event.{Event}
use Rattle.wkt.specs.declared.reader.Event.TheVariants.{Nothing, Geometry, Open as Opens, Point as EventPoint, Last, Close as Closes}
use Rattle.wkt.specs.LayerText.{Point, Ring}
use Rattle.wkt.specs.Machine.{class_of, Notes, started, noted, State, run, start, may_end}
use Rattle.wkt.specs.Reading.{ReaderIs, Says, Went, begins_geometry}
use Rattle.wkt.specs.Refusals.{all_numbers, first_outside, place_of, first_fault, plain, IsAccepted}
use Rattle.wkt.specs.Running.{HasPassed, Passes}
use Rattle.wkt.specs.Surveying.{Shown, fresh, took}
use Rattle.wkt.specs.Collecting.{gathered}
use Rattle.wkt.specs.FeatureCollecting.{Seen, begun_if, followed}
use Rattle.wkt.specs.Features.{StandsForFeatures, features_of, AreCut}
use Rattle.wkt.specs.Outlines.{IsOutline}
use Rattle.wkt.proofs.Complete.{taken_features}
use Rattle.wkt.proofs.Surveys.{read_numbers, more_numbers, closed_numbers}
use Rattle.wkt.proofs.Checks.{Known, Checked, known_first, known_more, known_on, Answers, idle_end}
use Rattle.wkt.proofs.Collections.{Holds, Collected, holds_noted, holds_at, front_inside, front_sound, collected_done}
use Rattle.wkt.proofs.Cuts.{has_features, plain_joined, plain_starts, cut_is, are_cut}

-- ---- what is right with rings was right with those before them

-- all numbers are inside the limit, and no ring is at fault
abbrev IsClean : List Ring → List Point → Type 0
IsClean rings ps = (first_outside (read_numbers rings ps) ≡ None) × (first_fault rings ≡ None)

clean_at : (r r' : List Ring) (p p' : List Point) → r' ≡ r → p' ≡ p → IsClean r' p' → IsClean r p
clean_at r r' p p' e f h = subst (λ (x : List Point). IsClean r x) f (subst (λ (x : List Ring). IsClean x p') e h)

point_before : (rings : List Ring) (ps : List Point) (p : Point) → IsClean rings (ps ++ p ∷ []) → IsClean rings ps
point_before rings ps p h = ((front_inside (read_numbers rings ps) (p.x ∷ p.y ∷ []) (ap first_outside (sym (more_numbers rings ps p)) ∙ h.0)).0, h.1)

ring_before : (rings : List Ring) (at : ℕ) (ps : List Point) → IsClean (rings ++ record { at = at; points = ps } ∷ []) [] → IsClean rings ps
ring_before rings at ps h = (ap first_outside (sym (closed_numbers rings at ps)) ∙ h.0, front_sound rings (record { at = at; points = ps } ∷ []) h.1)

clean_before : (e : Event) (at : ℕ) (m m' : Notes) → Says e at m m' → IsClean m'.rings m'.points → IsClean m.rings m.points
clean_before Nothing at m m' h c = clean_at m.rings m'.rings m.points m'.points h.0 h.2 c
clean_before Geometry at m m' h c = clean_at m.rings m'.rings m.points m'.points h.0 h.2 c
clean_before Opens at m m' h c = clean_at m.rings m'.rings m.points m'.points h.0 (h.2 ∙ sym h.3) c
clean_before (EventPoint x y) at m m' h c = point_before m.rings m.points h.0 (clean_at m.rings m'.rings (m.points ++ h.0 ∷ []) m'.points h.2 h.4 c)
clean_before (Last x y) at m m' h c =
    point_before m.rings m.points h.0 (ring_before m.rings m.ring_at (m.points ++ h.0 ∷ [])
    (clean_at (m.rings ++ record { at = m.ring_at; points = m.points ++ h.0 ∷ [] } ∷ []) m'.rings [] m'.points h.3 h.4 c))
clean_before Closes at m m' h c = ring_before m.rings m.ring_at m.points (clean_at (m.rings ++ record { at = m.ring_at; points = m.points } ∷ []) m'.rings [] m'.points h.1 h.2 c)

-- ---- the starts so far, if all numbers are inside the limit and no ring is at fault

abbrev pub HoldsStarts : Notes → List ℕ → Type 0
HoldsStarts m starts = IsClean m.rings m.points → starts ≡ m.starts

-- where a geometry begins, as many rings are kept as are whole
begun_same : (begun : Bool) (m : Notes) (x : Seen) → Holds m.rings m.points x.0 → HoldsStarts m x.1 → IsClean m.rings m.points → (begun_if begun x).1 ≡ started begun m.starts m.rings
begun_same false m x h k c = k c
begun_same true m x h k c =
    let n : length x.0.0 ≡ length m.rings = ap (λ (g : List (List Pt) × List Pt). length g.0) (h c.0 c.1) ∙ length-map m.rings (λ (r : Ring). take (length r.points - 1) (map place_of r.points)) in
    ap (λ s. s ++ length x.0.0 ∷ []) (k c) ∙ ap (λ l. m.starts ++ l ∷ []) n

starts_noted : (e : Event) (at : ℕ) (m m' : Notes) (x : Seen) → Says e at m m' → m'.starts ≡ started (begins_geometry e) m.starts m.rings → Holds m.rings m.points x.0 → HoldsStarts m x.1 → HoldsStarts m' (begun_if (begins_geometry e) x).1
starts_noted e at m m' x says is h k = λ c. begun_same (begins_geometry e) m x h k (clean_before e at m m' says c) ∙ sym is

-- ---- the loop

pub record Featured (text : List ℕ) (at : ℕ) (r : Reader) (s : Shown) (x : Seen) : Type 0 where
  pub notes : Notes
  pub known : Known text at r s notes
  pub holds : Holds notes.rings notes.points x.0
  pub starts : HoldsStarts notes x.1

abbrev pub featured_collected : (text : List ℕ) (at : ℕ) (r : Reader) (s : Shown) (x : Seen) → Featured text at r s x → Collected text at r s x.0
featured_collected text at r s x k = record { notes = k.notes; known = k.known; holds = k.holds }

abbrev pub featured_checked : (text : List ℕ) (at : ℕ) (r : Reader) (s : Shown) (x : Seen) → Featured text at r s x → Checked text at r s
featured_checked text at r s x k = record { notes = k.notes; known = k.known }

pub featured_first : (text : List ℕ) (r : Reader) (s : Shown) → r.place ≡ start.place → ReaderIs r start.notes → s ≡ fresh → Featured text 0 r s (([], []), [])
featured_first text r s p h e = record { notes = start.notes; known = known_first text r s p h e; holds = λ f sound. refl; starts = λ c. refl }

featured_more : (text : List ℕ) (at : ℕ) (r : Reader) (s : Shown) (x : Seen) (e : Event) (r' : Reader) → at < length text → (k : Featured text at r s x) → Went at (get_or text at 0) r k.notes e r'
    → Featured text (at + 1) r' (took s at e) (gathered e x.0, (begun_if (begins_geometry e) x).1)
featured_more text at r s x e r' lt k w =
    let m' = noted at r.place (class_of (get_or text at 0)) k.notes in
    record {
      notes = m';
      known = known_more text at r s k.notes e r' lt k.known w;
      holds = holds_noted e at k.notes m' x.0 w.says k.holds;
      starts = starts_noted e at k.notes m' x w.says w.starts k.holds k.starts;
    }

featured_on : (text : List ℕ) (at end : ℕ) (begun : Bool) (r r' : Reader) (s : Shown) (x : Seen) → Featured text at r s x → Passes text at end begun r r' → Featured text end r' s (begun_if begun x)
featured_on text at end begun r r' s x k w =
    let p : HasPassed text end begun r' k.notes = w.passed k.notes k.known.read in
    record {
      notes = p.notes;
      known = known_on text at end begun r r' s k.notes k.known w.onward p;
      holds = holds_at k.notes.rings p.notes.rings k.notes.points p.notes.points x.0 (sym p.rings) (sym p.points) k.holds;
      starts = λ c. begun_same begun k.notes x k.holds k.starts (clean_at k.notes.rings p.notes.rings k.notes.points p.notes.points p.rings p.points c) ∙ sym p.starts;
    }

-- a byte, and what is passed behind it
pub featured_step : (text : List ℕ) (at end : ℕ) (begun : Bool) (r r' r'' : Reader) (s : Shown) (x : Seen) (e : Event) → at < length text → (k : Featured text at r s x) → Went at (get_or text at 0) r k.notes e r'
    → Passes text (at + 1) end begun r' r'' → Featured text end r'' (took s at e) (followed e begun x)
featured_step text at end begun r r' r'' s x e lt k w p =
    featured_on text (at + 1) end begun r' r'' (took s at e) (gathered e x.0, (begun_if (begins_geometry e) x).1) (featured_more text at r s x e r' lt k w) p

-- ---- at the end

-- where the text is accepted, it stands for the features that were gathered, and the outline is theirs
pub featured_done : (limit : ℕ) (text : List ℕ) (at : ℕ) (r : Reader) (s : Shown) (x : Seen) (outline : Outline) → length text ≤ at → Featured text at r s x → Answers limit text (Ok outline)
    → StandsForFeatures text (features_of x.0.0 x.1) × AreCut (features_of x.0.0 x.1) x.0.0 x.1 × IsOutline x.0.0 outline
featured_done limit text at r s x outline le k answers =
    let c = collected_done limit text at r s x.0 outline le (featured_collected text at r s x k) answers in
    let written : List Ring = c.0.0 in
    let f = has_features text written c.0.1.layer in
    let t = taken_features text f.0 f.1 in
    let last : State = record { place = r.place; notes = k.notes } in
    let same : t.0 ≡ last = same_Some t.0 last (sym t.1 ∙ k.known.read.on ∙ ap (run (length text) last) (drop_all at text le)) in
    let end : may_end r.place ≡ true = ap (λ (z : State). may_end z.place) (sym same) ∙ t.2 in
    let rings : k.notes.rings ≡ written = ap (λ (z : State). z.notes.rings) (sym same) ∙ t.3 ∙ sym f.2 in
    let none : k.notes.points ≡ [] = idle_end r.place k.notes end k.known.read.is.3 in
    let clean : IsClean k.notes.rings k.notes.points =
    clean_at k.notes.rings written k.notes.points [] (sym rings) (sym none) (ap first_outside (append-nil (all_numbers written)) ∙ c.0.1.inside, c.0.1.sound) in
    let cut : AreCut (map plain f.0) x.0.0 x.1 = record {
      all = sym (plain_joined f.0) ∙ ap plain (sym f.2) ∙ c.0.2;
      firsts = plain_starts 0 f.0 ∙ sym t.4 ∙ ap (λ (z : State). z.notes.starts) same ∙ sym (k.starts clean);
    } in (
      (f.0, f.1, subst (λ z. IsAccepted text z) f.2 c.0.1, sym (cut_is (map plain f.0) x.0.0 x.1 cut)),
      are_cut (map plain f.0) x.0.0 x.1 cut,
      c.1,
    )
