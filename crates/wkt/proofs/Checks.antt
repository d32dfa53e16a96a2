-- What the check knows at each byte, and what it answers.
use Rattle.std.proofs.Common.{◌≡◌, ℕ, ◌+◌, ◌<◌, ◌≤◌, Bool, true, false, min, List, [], ◌∷◌, ◌++◌, length, get_or, ◌⊎◌, inl, inr, Option, Some, None, Result, refl, sym, ap, subst, ◌∙◌, arith}
use Rattle.std.specs.Prelude.{MatchOption, MatchResult, map, nat_lt, if◌then◌else◌}
use Rattle.std.proofs.lemmas.List.{append-nil, map_push, length-append, drop_all}
use Rattle.wkt.specs.declared.places.Place.{Place}
use Rattle.wkt.specs.declared.places.Place.TheVariants.{Between, Ended}
use Rattle.geom.specs.declared.point.Pt.{Pt}
use Rattle.wkt.specs.declared.outline.Outline.{Outline}
use Rattle.geom.specs.declared.fault.Fault.{Fault}
use Rattle.geom.specs.declared.fault.Fault.TheVariants.{LayerLong, Syntax, NumberRange, RingShort, RingOpen, TooManySegments, BadTile, BadWorkers, TooManyTiles, NotNoded, Memory, Write}
use Rattle.wkt.specs.declared.reader.Reader.{Reader}
use Rattle.wkt.specs.declared.reader.Event.{Event}
use Rattle.wkt.specs.declared.reader.Event.TheVariants.{Nothing, Geometry, Open as Opens, Point as EventPoint, Last, Close as Closes}
use Rattle.wkt.specs.LayerText.{Point, Ring, IsBroken, IsLayer}
use Rattle.wkt.specs.Machine.{class_of, turn, Notes, noted, run, start, may_end}
use Rattle.wkt.specs.Reading.{u32_max, Idle, ReaderIs, Says, Went}
use Rattle.geom.specs.Segments.{layer_steps}
use Rattle.std.proofs.lemmas.Option.{same_Some}
use Rattle.wkt.specs.Running.{HasRead, HasPassed, Passes}
use Rattle.wkt.specs.Refusals.{all_numbers, first_outside, place_of, is_closed, fault_at, or_else, first_fault, plain, HasFault, StandsFor, IsRefusedWithin}
use Rattle.wkt.specs.Outlines.{IsOutline}
use Rattle.wkt.specs.Surveying.{Sketch, sketch, Shown, fresh, took, judged}
use Rattle.wkt.proofs.Sound.{accepted}
use Rattle.wkt.proofs.Fronts.{stops, is_broken}
use Rattle.wkt.proofs.Passing.{read_first, read_more}
use Rattle.wkt.proofs.Boxes.{box_is}
use Rattle.wkt.proofs.Closing.{layer_steps-are}
use Rattle.wkt.proofs.Surveys.{segments, all_segments, box, read_segments, read_numbers, closed_segments, outline_of, Clean, Surveyed, SurveyedAt, noted_survey, segments-push-le}

-- the reader has come to this offset with these notes, and the survey is of them
pub record Known (text : List ℕ) (at : ℕ) (r : Reader) (s : Shown) (m : Notes) : Type 0 where
  pub read : HasRead text at r m
  pub survey : SurveyedAt s m
  pub few : length (read_segments m.rings m.points) ≤ at

pub record Checked (text : List ℕ) (at : ℕ) (r : Reader) (s : Shown) : Type 0 where
  pub notes : Notes
  pub known : Known text at r s notes

-- ---- at the start

pub known_first : (text : List ℕ) (r : Reader) (s : Shown) → r.place ≡ start.place → ReaderIs r start.notes → s ≡ fresh → Known text 0 r s start.notes
known_first text r s p h e = record {
  read = read_first text r p h;
  survey = subst (λ (x : Shown). SurveyedAt x start.notes) (sym e) (record { inside = refl; fault = refl; outline = refl; at_is = refl; count = refl; ends = tt });
  few = omega arith;
}

pub checked_first : (text : List ℕ) (r : Reader) (s : Shown) → r.place ≡ start.place → ReaderIs r start.notes → s ≡ fresh → Checked text 0 r s
checked_first text r s p h e = record { notes = start.notes; known = known_first text r s p h e }

-- ---- a byte more

few_more : (rings : List Ring) (ps : List Point) (p : Point) → length (read_segments rings (ps ++ p ∷ [])) ≤ length (read_segments rings ps) + 1
few_more rings ps p =
    let e : map place_of (ps ++ p ∷ []) ≡ map place_of ps ++ place_of p ∷ [] = map_push place_of ps p in
    let l = segments-push-le (map place_of ps) (place_of p) in
    rw e (omega (arith, length-append (all_segments rings) (segments (map place_of ps ++ place_of p ∷ [])), length-append (all_segments rings) (segments (map place_of ps)), l))

few_noted : (e : Event) (at : ℕ) (m m' : Notes) → Says e at m m' → length (read_segments m'.rings m'.points) ≤ length (read_segments m.rings m.points) + 1
few_noted Nothing at m m' h = rw (h.0, h.2) (omega arith)
few_noted Geometry at m m' h = rw (h.0, h.2) (omega arith)
few_noted Opens at m m' h = rw (h.0, h.2, h.3) (omega arith)
few_noted (EventPoint x y) at m m' h = rw (h.2, h.4) (few_more m.rings m.points h.0)
few_noted (Last x y) at m m' h = rw (h.3, h.4, closed_segments m.rings m.ring_at (m.points ++ h.0 ∷ [])) (few_more m.rings m.points h.0)
few_noted Closes at m m' h = rw (h.1, h.2, closed_segments m.rings m.ring_at m.points) (omega arith)

pub known_more : (text : List ℕ) (at : ℕ) (r : Reader) (s : Shown) (m : Notes) (e : Event) (r' : Reader) → at < length text → Known text at r s m → Went at (get_or text at 0) r m e r' → Known text (at + 1) r' (took s at e) (noted at r.place (class_of (get_or text at 0)) m)
known_more text at r s m e r' lt c w =
    let m' = noted at r.place (class_of (get_or text at 0)) m in
    let f = few_noted e at m m' w.says in
    record {
      read = read_more text at r m e r' lt c.read w;
      survey = noted_survey s at e m m' w.says c.survey;
      few = omega (arith, c.few, f);
    }

pub checked_more : (text : List ℕ) (at : ℕ) (r : Reader) (s : Shown) (e : Event) (r' : Reader) → at < length text → (c : Checked text at r s) → Went at (get_or text at 0) r c.notes e r' → Checked text (at + 1) r' (took s at e)
checked_more text at r s e r' lt c w = record { notes = noted at r.place (class_of (get_or text at 0)) c.notes; known = known_more text at r s c.notes e r' lt c.known w }

-- ---- bytes that complete nothing

few_passed : (a b : ℕ) (rings rings' : List Ring) (ps ps' : List Point) → rings' ≡ rings → ps' ≡ ps → a ≤ b → length (read_segments rings ps) ≤ a → length (read_segments rings' ps') ≤ b
few_passed a b rings rings' ps ps' e f le h = rw (e, f) (omega (arith, h))

pub known_on : (text : List ℕ) (at end : ℕ) (begun : Bool) (r r' : Reader) (s : Shown) (m : Notes) → Known text at r s m → at ≤ end → (p : HasPassed text end begun r' m) → Known text end r' s p.notes
known_on text at end begun r r' s m c le p = record {
  read = p.read;
  survey = noted_survey s at Nothing m p.notes (p.rings, p.ring_at, p.points) c.survey;
  few = few_passed at end m.rings p.notes.rings m.points p.notes.points p.rings p.points le c.few;
}

pub checked_on : (text : List ℕ) (at end : ℕ) (begun : Bool) (r r' : Reader) (s : Shown) → Checked text at r s → Passes text at end begun r r' → Checked text end r' s
checked_on text at end begun r r' s c w =
    let p : HasPassed text end begun r' c.notes = w.passed c.notes c.known.read in
    record { notes = p.notes; known = known_on text at end begun r r' s c.notes c.known w.onward p }

-- ---- the answers

pub checked_stop : (text : List ℕ) (at : ℕ) (r : Reader) (s : Shown) → at < length text → (c : Checked text at r s) → turn r.place (class_of (get_or text at 0)) c.notes.multi ≡ None → IsBroken text at
checked_stop text at r s lt c e = stops text at r.place (class_of (get_or text at 0)) r.multi lt c.known.read.walked refl (sym e ∙ ap (turn r.place (class_of (get_or text at 0))) (sym c.known.read.is.0))

pub checked_broken : (text : List ℕ) (at : ℕ) (r : Reader) (s : Shown) → length text ≤ at → Checked text at r s → may_end r.place ≡ false → IsBroken text (length text)
checked_broken text at r s le c e = is_broken text r.place r.multi at le c.known.read.walked e

pub idle_end : (p : Place) (m : Notes) → may_end p ≡ true → Idle p m → m.points ≡ []
idle_end Between m e i = i
idle_end Ended m e i = i
idle_end p m e i = absurd cc

-- ---- the answer

-- what is answered of the text, within a limit of bytes
abbrev pub Answers : ℕ → List ℕ → Result Outline Fault → Type 0
Answers limit text x = MatchResult x (λ outline. (rings : List (List Pt)) × StandsFor text rings × IsOutline rings outline) (λ fault. IsRefusedWithin limit text fault)

-- a ring's fault is one of the two
abbrev OfRing : Fault → Type 0
OfRing f = (at : ℕ) × ((f ≡ RingShort at) ⊎ (f ≡ RingOpen at))

of_tests : (b c : Bool) (at : ℕ) (f : Fault) → (if b then Some (RingShort at) else (if c then None else Some (RingOpen at))) ≡ Some f → OfRing f
of_tests true c at f e = (at, inl (sym (same_Some (RingShort at) f e)))
of_tests false true at f e = absurd cc
of_tests false false at f e = (at, inr (sym (same_Some (RingOpen at) f e)))

of_first : (o r : Option Fault) (f : Fault) → (o ≡ Some f → OfRing f) → (r ≡ Some f → OfRing f) → or_else o r ≡ Some f → OfRing f
of_first None r f g h e = h e
of_first (Some k) r f g h e = g e

of_ring : (rings : List Ring) (f : Fault) → first_fault rings ≡ Some f → OfRing f
of_ring [] f e = absurd cc
of_ring (r ∷ rings) f e =
    let pts : List Pt = map place_of r.points in
    of_first (fault_at r.at pts) (first_fault rings) f (of_tests (nat_lt (length pts) 4) (is_closed pts) r.at f) (of_ring rings f) e

refused : (limit : ℕ) (text : List ℕ) (f : Fault) → OfRing f → length text ≤ limit → HasFault text f → IsRefusedWithin limit text f
refused limit text (RingShort o) k short h = (short, h)
refused limit text (RingOpen o) k short h = (short, h)
refused limit text LayerLong (at, inl e) short h = absurd cc
refused limit text LayerLong (at, inr e) short h = absurd cc
refused limit text (Syntax o) (at, inl e) short h = absurd cc
refused limit text (Syntax o) (at, inr e) short h = absurd cc
refused limit text (NumberRange o) (at, inl e) short h = absurd cc
refused limit text (NumberRange o) (at, inr e) short h = absurd cc
refused limit text (TooManySegments n) (at, inl e) short h = absurd cc
refused limit text (TooManySegments n) (at, inr e) short h = absurd cc
refused limit text BadTile (at, inl e) short h = absurd cc
refused limit text BadTile (at, inr e) short h = absurd cc
refused limit text BadWorkers (at, inl e) short h = absurd cc
refused limit text BadWorkers (at, inr e) short h = absurd cc
refused limit text (TooManyTiles n) (at, inl e) short h = absurd cc
refused limit text (TooManyTiles n) (at, inr e) short h = absurd cc
refused limit text (NotNoded g k) (at, inl e) short h = absurd cc
refused limit text (NotNoded g k) (at, inr e) short h = absurd cc
refused limit text Memory (at, inl e) short h = absurd cc
refused limit text Memory (at, inr e) short h = absurd cc
refused limit text Write (at, inl e) short h = absurd cc
refused limit text Write (at, inr e) short h = absurd cc

outlined : (rings : List Ring) (o : Outline) → first_fault rings ≡ None → length (all_segments rings) ≤ u32_max → sketch o ≡ outline_of (all_segments rings) → IsOutline (plain rings) o
outlined rings o sound few e =
    let steps : layer_steps (plain rings) ≡ all_segments rings = layer_steps-are rings sound in
    let lengths : min (length (all_segments rings)) u32_max ≡ length (all_segments rings) = omega arith in
    record {
      count = ap (λ (x : Sketch). x.segments) e ∙ lengths ∙ ap (λ (x : List (Pt × Pt)). length x) (sym steps);
      box = box_is (layer_steps (plain rings)) o.bounds (ap (λ (x : Sketch). x.bounds) e ∙ ap box (sym steps));
    }

answered_clean : (limit : ℕ) (text : List ℕ) (s : Shown) (outline : Outline) (rings : List Ring) (at : ℕ) (f : Option Fault) → s.fault ≡ f → sketch outline ≡ s.outline → length text ≤ limit → IsLayer text rings → length (all_segments rings) ≤ u32_max → Clean s rings at []
    → Answers limit text (judged None f outline)
answered_clean limit text s outline rings at None e sk short h few c =
    let inside : first_outside (all_numbers rings) ≡ None = ap first_outside (sym (append-nil (all_numbers rings))) ∙ c.inside in
    let sound : first_fault rings ≡ None = sym c.fault ∙ e in
    (plain rings, (rings, record { layer = h; inside = inside; sound = sound }, refl), outlined rings outline sound few (sk ∙ c.outline ∙ ap outline_of (append-nil (all_segments rings))))
answered_clean limit text s outline rings at (Some f) e sk short h few c =
    let inside : first_outside (all_numbers rings) ≡ None = ap first_outside (sym (append-nil (all_numbers rings))) ∙ c.inside in
    let fault : first_fault rings ≡ Some f = sym c.fault ∙ e in
    refused limit text f (of_ring rings f fault) short (rings, h, inside, fault)

answered : (limit : ℕ) (text : List ℕ) (s : Shown) (outline : Outline) (rings : List Ring) (at : ℕ) (o : Option ℕ) → s.outside ≡ o → sketch outline ≡ s.outline → length text ≤ limit → IsLayer text rings → length (all_segments rings) ≤ u32_max → Surveyed s rings at []
    → Answers limit text (judged o s.fault outline)
answered limit text s outline rings at None out sk short h few c =
    answered_clean limit text s outline rings at s.fault refl sk short h few
    (subst (λ (o : Option ℕ). MatchOption o (Clean s rings at []) (λ o. first_outside (read_numbers rings []) ≡ Some o)) out c)
answered limit text s outline rings at (Some k) out sk short h few c =
    let found : first_outside (read_numbers rings []) ≡ Some k = subst (λ (o : Option ℕ). MatchOption o (Clean s rings at []) (λ o. first_outside (read_numbers rings []) ≡ Some o)) out c in
    (short, (rings, h, ap first_outside (sym (append-nil (all_numbers rings))) ∙ found))

pub checked_whole : (limit : ℕ) (text : List ℕ) (at : ℕ) (r : Reader) (s : Shown) (outline : Outline) → limit ≤ u32_max → length text ≤ at → length text ≤ limit → Checked text at r s → may_end r.place ≡ true
    → sketch outline ≡ s.outline → Answers limit text (judged s.outside s.fault outline)
checked_whole limit text at r s outline fits le small c e sk =
    let m = c.notes in
    let ended : run (length text) start text ≡ Some (record { place = r.place; notes = m }) = c.known.read.on ∙ ap (run (length text) (record { place = r.place; notes = m })) (drop_all at text le) in
    let none : m.points ≡ [] = idle_end r.place m e c.known.read.is.3 in
    let few : length (read_segments m.rings []) ≤ at = subst (λ (ps : List Point). length (read_segments m.rings ps) ≤ at) none c.known.few in
    let few' : length (all_segments m.rings) ≤ at = subst (λ (x : List (Pt × Pt)). length x ≤ at) (append-nil (all_segments m.rings)) few in
    answered limit text s outline m.rings m.ring_at s.outside refl sk small (accepted text (record { place = r.place; notes = m }) ended e) (omega (arith, few', c.known.read.within, small, fits))
    (subst (λ (ps : List Point). Surveyed s m.rings m.ring_at ps) none c.known.survey)
