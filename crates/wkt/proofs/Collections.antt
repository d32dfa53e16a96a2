-- The rings that are gathered.
use Rattle.std.proofs.Common.{◌≡◌, ℕ, ◌+◌, ◌-◌, ◌<◌, ◌≤◌, Bool, true, false, cond, inl, inr, List, [], ◌∷◌, ◌++◌, length, get_or, take, Option, Some, None, Ok, refl, sym, ap, subst, ◌∙◌, arith}
use Rattle.std.specs.Prelude.{map, nat_lt, unsigned_abs, unwrap_or, ℤ, pos}
use Rattle.std.proofs.lemmas.List.{append-nil, map_push, drop_all, length-map}
use Rattle.std.proofs.lemmas.Bool.Decides.{nat_tests}
use Rattle.geom.specs.declared.point.Pt.{Pt}
use Rattle.wkt.specs.declared.reader.Reader.{Reader}
use Rattle.wkt.specs.declared.reader.Number.{Number as Numeral}
use Rattle.wkt.specs.declared.reader.Event.{Event}
use Rattle.wkt.specs.declared.reader.Event.TheVariants.{Nothing, Geometry, Open as Opens, Point as EventPoint, Last, Close as Closes}
use Rattle.wkt.specs.LayerText.{Number, Point, Ring}
use Rattle.wkt.specs.Machine.{class_of, Notes, noted, State, run, start, may_end}
use Rattle.wkt.specs.Reading.{ReaderIs, StandFor, value_of, Says, Went}
use Rattle.geom.specs.declared.fault.Fault.{Fault}
use Rattle.wkt.specs.declared.outline.Outline.{Outline}
use Rattle.wkt.specs.Outlines.{IsOutline}
use Rattle.geom.specs.Limit.{coordinate_limit}
use Rattle.std.proofs.lemmas.Option.{same_Some}
use Rattle.wkt.specs.Refusals.{all_numbers, first_outside, place_of, fault_at, or_else, first_fault, plain, IsAccepted, StandsFor}
use Rattle.wkt.specs.Running.{HasPassed, Passes}
use Rattle.wkt.specs.Surveying.{Shown, fresh, took}
use Rattle.wkt.specs.Collecting.{point_value, Gathered, but_last, closed, gathered}
use Rattle.wkt.proofs.Complete.{taken}
use Rattle.wkt.proofs.Closing.{enough, none_first}
use Rattle.wkt.proofs.Surveys.{read_numbers, Valued, value_cases, more_numbers, closed_numbers}
use Rattle.wkt.proofs.Checks.{Known, Checked, known_first, known_more, known_on, Answers, idle_end}

-- ---- numbers inside the limit

front_step : (b : Bool) (x : Number) (xs ys : List Number) → (first_outside (xs ++ ys) ≡ None → (first_outside xs ≡ None) × (first_outside ys ≡ None))
    → cond b (Some x.at) (first_outside (xs ++ ys)) ≡ None → (cond b (Some x.at) (first_outside xs) ≡ None) × (first_outside ys ≡ None)
front_step true x xs ys f e = absurd cc
front_step false x xs ys f e = f e

pub front_inside : (xs ys : List Number) → first_outside (xs ++ ys) ≡ None → (first_outside xs ≡ None) × (first_outside ys ≡ None)
front_inside [] ys e = (refl, e)
front_inside (x ∷ xs) ys e = front_step (nat_lt coordinate_limit (unsigned_abs x.value)) x xs ys (front_inside xs ys) e

valued : (c : Numeral) (x : Number) → Valued c x → nat_lt coordinate_limit (unsigned_abs x.value) ≡ false → unwrap_or (value_of c) (pos 0) ≡ x.value
valued c x (inl (e, f)) g = absurd cc
valued c x (inr (e, f)) g = ap (λ (o : Option ℤ). unwrap_or o (pos 0)) e

pub inside_head : (b : Bool) (k : ℕ) (o : Option ℕ) → cond b (Some k) o ≡ None → (b ≡ false) × (o ≡ None)
inside_head true k o e = absurd cc
inside_head false k o e = (refl, e)

point_is : (u v : ℤ) (p : Point) → u ≡ p.x.value → v ≡ p.y.value → (let q : Pt = record { x = u; y = v } in q) ≡ place_of p
point_is u v p e f = ap (λ (z : ℤ). let q : Pt = record { x = z; y = v } in q) e ∙ ap (λ (z : ℤ). let q : Pt = record { x = p.x.value; y = z } in q) f

point_value_is : (x y : Numeral) (p : Point) → StandFor x y p → first_outside (p.x ∷ p.y ∷ []) ≡ None → point_value x y ≡ place_of p
point_value_is x y p h e =
    let a = inside_head (nat_lt coordinate_limit (unsigned_abs p.x.value)) p.x.at (first_outside (p.y ∷ [])) e in
    let b = inside_head (nat_lt coordinate_limit (unsigned_abs p.y.value)) p.y.at None a.1 in
    point_is (unwrap_or (value_of x) (pos 0)) (unwrap_or (value_of y) (pos 0)) p (valued x p.x (value_cases x p.x h.0) a.0) (valued y p.y (value_cases y p.y h.1) b.0)

-- ---- rings without a fault

pub front_sound : (rings more : List Ring) → first_fault (rings ++ more) ≡ None → first_fault rings ≡ None
front_sound [] more e = refl
front_sound (r ∷ rings) more e =
    let h = none_first (fault_at r.at (map place_of r.points)) (first_fault (rings ++ more)) e in
    ap (λ (o : Option Fault). or_else o (first_fault rings)) h.0 ∙ front_sound rings more h.1

last_sound : (rings : List Ring) (r : Ring) → first_fault (rings ++ r ∷ []) ≡ None → fault_at r.at (map place_of r.points) ≡ None
last_sound [] r e = (none_first (fault_at r.at (map place_of r.points)) None e).0
last_sound (q ∷ rings) r e = last_sound rings r (none_first (fault_at q.at (map place_of q.points)) (first_fault (rings ++ r ∷ [])) e).1

-- the last of sound rings has four points or more
last_enough : (rings : List Ring) (at : ℕ) (ps : List Point) → first_fault (rings ++ record { at = at; points = ps } ∷ []) ≡ None → 4 ≤ length ps
last_enough rings at ps e = subst (λ (n : ℕ). 4 ≤ n) (length-map ps place_of) (enough at (map place_of ps) (last_sound rings (record { at = at; points = ps }) e))

-- ---- what was gathered

-- these are the rings and the points so far, if all numbers are inside the limit and no ring is at fault
abbrev pub Holds : List Ring → List Point → Gathered → Type 0
Holds rings ps g = first_outside (read_numbers rings ps) ≡ None → first_fault rings ≡ None → g ≡ (plain rings, map place_of ps)

holds_point : (rings : List Ring) (ps : List Point) (p : Point) (x y : Numeral) (g : Gathered) → StandFor x y p → Holds rings ps g → Holds rings (ps ++ p ∷ []) (g.0, g.1 ++ point_value x y ∷ [])
holds_point rings ps p x y g h f e sound =
    let i = front_inside (read_numbers rings ps) (p.x ∷ p.y ∷ []) (ap first_outside (sym (more_numbers rings ps p)) ∙ e) in
    ap (λ (k : Gathered). (k.0, k.1 ++ point_value x y ∷ [])) (f i.0 sound)
    ∙ ap (λ (q : Pt). (plain rings, map place_of ps ++ q ∷ [])) (point_value_is x y p h i.1)
    ∙ ap (λ (qs : List Pt). (plain rings, qs)) (sym (map_push place_of ps p))

many_points : (n : ℕ) → 4 ≤ n → nat_lt n 4 ≡ false
many_points n le = grind (arith, nat_tests)

holds_close : (rings : List Ring) (at : ℕ) (ps : List Point) (g : Gathered) → Holds rings ps g → Holds (rings ++ record { at = at; points = ps } ∷ []) [] (closed g)
holds_close rings at ps g f e sound =
    let r : Ring = record { at = at; points = ps } in
    let test : nat_lt (length (map place_of ps)) 4 ≡ false = ap (λ (n : ℕ). nat_lt n 4) (length-map ps place_of) ∙ many_points (length ps) (last_enough rings at ps sound) in
    ap closed (f (ap first_outside (sym (closed_numbers rings at ps)) ∙ e) (front_sound rings (r ∷ []) sound))
    ∙ ap (λ (b : Bool). cond b (plain rings, []) (plain rings ++ but_last (map place_of ps) ∷ [], [])) test
    ∙ ap (λ (n : ℕ). (plain rings ++ take (n - 1) (map place_of ps) ∷ [], [])) (length-map ps place_of)
    ∙ ap (λ (qs : List (List Pt)). (qs, [])) (sym (map_push (λ (r : Ring). take (length r.points - 1) (map place_of r.points)) rings r))

pub holds_at : (r r' : List Ring) (p p' : List Point) (g : Gathered) → r ≡ r' → p ≡ p' → Holds r p g → Holds r' p' g
holds_at r r' p p' g e f h = subst (λ (x : List Point). Holds r' x g) f (subst (λ (x : List Ring). Holds x p g) e h)

pub holds_noted : (e : Event) (at : ℕ) (m m' : Notes) (g : Gathered) → Says e at m m' → Holds m.rings m.points g → Holds m'.rings m'.points (gathered e g)
holds_noted Nothing at m m' g h f = holds_at m.rings m'.rings m.points m'.points g (sym h.0) (sym h.2) f
holds_noted Geometry at m m' g h f = holds_at m.rings m'.rings m.points m'.points g (sym h.0) (sym h.2) f
holds_noted Opens at m m' g h f = holds_at m.rings m'.rings m.points m'.points g (sym h.0) (h.3 ∙ sym h.2) f
holds_noted (EventPoint x y) at m m' g h f = holds_at m.rings m'.rings (m.points ++ h.0 ∷ []) m'.points (gathered (EventPoint x y) g) (sym h.2) (sym h.4) (holds_point m.rings m.points h.0 x y g h.1 f)
holds_noted (Last x y) at m m' g h f =
    holds_at (m.rings ++ record { at = m.ring_at; points = m.points ++ h.0 ∷ [] } ∷ []) m'.rings [] m'.points (gathered (Last x y) g) (sym h.3) (sym h.4)
    (holds_close m.rings m.ring_at (m.points ++ h.0 ∷ []) (g.0, g.1 ++ point_value x y ∷ []) (holds_point m.rings m.points h.0 x y g h.1 f))
holds_noted Closes at m m' g h f = holds_at (m.rings ++ record { at = m.ring_at; points = m.points } ∷ []) m'.rings [] m'.points (gathered Closes g) (sym h.1) (sym h.2) (holds_close m.rings m.ring_at m.points g f)

-- ---- the loop

pub record Collected (text : List ℕ) (at : ℕ) (r : Reader) (s : Shown) (g : Gathered) : Type 0 where
  pub notes : Notes
  pub known : Known text at r s notes
  pub holds : Holds notes.rings notes.points g

pub collected_first : (text : List ℕ) (r : Reader) (s : Shown) → r.place ≡ start.place → ReaderIs r start.notes → s ≡ fresh → Collected text 0 r s ([], [])
collected_first text r s p h e = record { notes = start.notes; known = known_first text r s p h e; holds = λ f sound. refl }

pub collected_more : (text : List ℕ) (at : ℕ) (r : Reader) (s : Shown) (g : Gathered) (e : Event) (r' : Reader) → at < length text → (k : Collected text at r s g) → Went at (get_or text at 0) r k.notes e r' → Collected text (at + 1) r' (took s at e) (gathered e g)
collected_more text at r s g e r' lt k w =
    let m' = noted at r.place (class_of (get_or text at 0)) k.notes in
    record { notes = m'; known = known_more text at r s k.notes e r' lt k.known w; holds = holds_noted e at k.notes m' g w.says k.holds }

pub collected_on : (text : List ℕ) (at end : ℕ) (begun : Bool) (r r' : Reader) (s : Shown) (g : Gathered) → Collected text at r s g → Passes text at end begun r r' → Collected text end r' s g
collected_on text at end begun r r' s g k w =
    let p : HasPassed text end begun r' k.notes = w.passed k.notes k.known.read in
    record { notes = p.notes; known = known_on text at end begun r r' s k.notes k.known w.onward p; holds = holds_at k.notes.rings p.notes.rings k.notes.points p.notes.points g (sym p.rings) (sym p.points) k.holds }

abbrev pub collected_checked : (text : List ℕ) (at : ℕ) (r : Reader) (s : Shown) (g : Gathered) → Collected text at r s g → Checked text at r s
collected_checked text at r s g k = record { notes = k.notes; known = k.known }

-- ---- at the end

done : (text : List ℕ) (at : ℕ) (r : Reader) (s : Shown) (g : Gathered) (rings : List Ring) → length text ≤ at → IsAccepted text rings → Collected text at r s g → g.0 ≡ plain rings
done text at r s g rings le l k =
    let t = taken text rings l.layer in
    let last : State = record { place = r.place; notes = k.notes } in
    let same : t.0 ≡ last = same_Some t.0 last (sym t.1 ∙ k.known.read.on ∙ ap (run (length text) last) (drop_all at text le)) in
    let end : may_end r.place ≡ true = ap (λ (x : State). may_end x.place) (sym same) ∙ t.2 in
    let rings-are : k.notes.rings ≡ rings = ap (λ (x : State). x.notes.rings) (sym same) ∙ t.3 in
    let none : k.notes.points ≡ [] = idle_end r.place k.notes end k.known.read.is.3 in
    let h = holds_at k.notes.rings rings k.notes.points [] g rings-are none k.holds in
    ap (λ (x : Gathered). x.0) (h (ap first_outside (append-nil (all_numbers rings)) ∙ l.inside) l.sound)

-- where the text is accepted, it stands for the rings that were gathered, and the outline is theirs
pub collected_done : (limit : ℕ) (text : List ℕ) (at : ℕ) (r : Reader) (s : Shown) (g : Gathered) (outline : Outline) → length text ≤ at → Collected text at r s g → Answers limit text (Ok outline) → StandsFor text g.0 × IsOutline g.0 outline
collected_done limit text at r s g outline le k (rings, (written, accepted, e), o) =
    let same : plain written ≡ g.0 = sym (done text at r s g written le accepted k) in
    ((written, accepted, same), subst (λ (rs : List (List Pt)). IsOutline rs outline) (sym e ∙ same) o)
