-- What the survey knows of the rings so far.
use Rattle.std.proofs.Common.{◌≡◌, ℕ, zero, suc, ◌+◌, ◌≤◌, Bool, true, false, cond, eqb, ltb, min, ◌⊎◌, inl, inr, List, [], ◌∷◌, ◌++◌, length, Option, Some, None, refl, sym, ap, subst, ◌∙◌, append_assoc, arith, ℤ}
use Rattle.std.specs.Prelude.{MatchOption, nat_lt, map, unsigned_abs, fold, if◌then◌else◌}
use Rattle.std.specs.List.{flat_map}
use Rattle.std.proofs.lemmas.List.{append-nil, map_push, length_push, length-map, length-append}
use Rattle.std.proofs.lemmas.Grind.{fold-append, flat_map-append}
use Rattle.std.proofs.lemmas.Bool.Decides.{nat_tests}
use Rattle.geom.specs.declared.point.Pt.{Pt}
use Rattle.wkt.specs.declared.reader.Number.{Number as Numeral}
use Rattle.wkt.specs.declared.reader.Event.{Event}
use Rattle.wkt.specs.declared.reader.Event.TheVariants.{Nothing, Geometry, Open as Opens, Point as EventPoint, Last, Close as Closes}
use Rattle.geom.specs.declared.fault.Fault.{Fault}
use Rattle.geom.specs.declared.fault.Fault.TheVariants.{RingShort, RingOpen}
use Rattle.wkt.specs.LayerText.{Number, Point, Ring}
use Rattle.wkt.specs.Machine.{Notes, signed}
use Rattle.wkt.specs.Reading.{u32_max, value_of, IsNumeralFor, StandFor, Says}
use Rattle.geom.specs.Limit.{coordinate_limit}
use Rattle.geom.specs.Segments.{same_point}
use Rattle.wkt.specs.Refusals.{numbers, all_numbers, first_outside, place_of, last_of, fault_at, or_else, first_fault}
use Rattle.wkt.specs.Surveying.{Corners, Sketch, Shown, grown_by, opened_at, lengthened, added, valued, unless_outside, pointed, ring_fault, or_ring, closed_ring, took}

-- ---- segments, from point to point

abbrev pub segments_from : Pt → List Pt → List (Pt × Pt)
segments_from p [] = []
segments_from p (q ∷ qs) = if same_point p q then segments_from q qs else (p, q) ∷ segments_from q qs

abbrev pub segments : List Pt → List (Pt × Pt)
segments [] = []
segments (p ∷ ps) = segments_from p ps

abbrev pub all_segments : List Ring → List (Pt × Pt)
all_segments rings = flat_map (λ r. segments (map place_of r.points)) rings

abbrev pub box : List (Pt × Pt) → Option Corners
box ss = fold grown_by None ss

-- ---- numbers

numbers-append : (ps : List Point) (p : Point) → numbers (ps ++ p ∷ []) ≡ numbers ps ++ (p.x ∷ p.y ∷ [])
numbers-append [] p = refl
numbers-append (q ∷ ps) p = ap (λ (ns : List Number). q.x ∷ q.y ∷ ns) (numbers-append ps p)

outside_step : (b : Bool) (x : Number) (xs ys : List Number) → (first_outside xs ≡ None → first_outside (xs ++ ys) ≡ first_outside ys)
    → cond b (Some x.at) (first_outside xs) ≡ None → cond b (Some x.at) (first_outside (xs ++ ys)) ≡ first_outside ys
outside_step true x xs ys f e = absurd cc
outside_step false x xs ys f e = f e

found_step : (b : Bool) (x : Number) (xs ys : List Number) (o : ℕ) → (first_outside xs ≡ Some o → first_outside (xs ++ ys) ≡ Some o)
    → cond b (Some x.at) (first_outside xs) ≡ Some o → cond b (Some x.at) (first_outside (xs ++ ys)) ≡ Some o
found_step true x xs ys o f e = e
found_step false x xs ys o f e = f e

pub outside_then : (xs ys : List Number) → first_outside xs ≡ None → first_outside (xs ++ ys) ≡ first_outside ys
outside_then [] ys e = refl
outside_then (x ∷ xs) ys e = outside_step (nat_lt coordinate_limit (unsigned_abs x.value)) x xs ys (outside_then xs ys) e

outside_found : (xs ys : List Number) (o : ℕ) → first_outside xs ≡ Some o → first_outside (xs ++ ys) ≡ Some o
outside_found [] ys o e = absurd cc
outside_found (x ∷ xs) ys o e = found_step (nat_lt coordinate_limit (unsigned_abs x.value)) x xs ys o (outside_found xs ys o) e

-- what was read: whole rings, and the points of one
abbrev pub read_numbers : List Ring → List Point → List Number
read_numbers rings ps = all_numbers rings ++ numbers ps

abbrev pub read_segments : List Ring → List Point → List (Pt × Pt)
read_segments rings ps = all_segments rings ++ segments (map place_of ps)

pub more_numbers : (rings : List Ring) (ps : List Point) (p : Point) → read_numbers rings (ps ++ p ∷ []) ≡ read_numbers rings ps ++ (p.x ∷ p.y ∷ [])
more_numbers rings ps p = ap (λ (x : List Number). all_numbers rings ++ x) (numbers-append ps p) ∙ sym (append_assoc (all_numbers rings) (numbers ps) (p.x ∷ p.y ∷ []))

pub closed_numbers : (rings : List Ring) (at : ℕ) (ps : List Point) → read_numbers (rings ++ record { at = at; points = ps } ∷ []) [] ≡ read_numbers rings ps
closed_numbers rings at ps =
    append-nil (all_numbers (rings ++ record { at = at; points = ps } ∷ [])) ∙ flat_map-append (λ (r : Ring). numbers r.points) rings (record { at = at; points = ps } ∷ []) ∙ ap (λ (x : List Number). all_numbers rings ++ x) (append-nil (numbers ps))

pub closed_segments : (rings : List Ring) (at : ℕ) (ps : List Point) → read_segments (rings ++ record { at = at; points = ps } ∷ []) [] ≡ read_segments rings ps
closed_segments rings at ps =
    append-nil (all_segments (rings ++ record { at = at; points = ps } ∷ [])) ∙ flat_map-append (λ (r : Ring). segments (map place_of r.points)) rings (record { at = at; points = ps } ∷ []) ∙ ap (λ (x : List (Pt × Pt)). all_segments rings ++ x) (append-nil (segments (map place_of ps)))

-- ---- segments

abbrev step_of : Pt → Pt → List (Pt × Pt)
step_of a q = cond (same_point a q) [] ((a, q) ∷ [])

push_step : (b : Bool) (a q : Pt) (xs ys zs : List (Pt × Pt)) → xs ≡ ys ++ zs → cond b xs ((a, q) ∷ xs) ≡ cond b ys ((a, q) ∷ ys) ++ zs
push_step true a q xs ys zs e = e
push_step false a q xs ys zs e = ap (λ (x : List (Pt × Pt)). (a, q) ∷ x) e

segments_from-push : (a : Pt) (qs : List Pt) (q : Pt) → segments_from a (qs ++ q ∷ []) ≡ segments_from a qs ++ step_of (last_of a qs) q
segments_from-push a [] q = refl
segments_from-push a (b ∷ qs) q = push_step (same_point a b) a b (segments_from b (qs ++ q ∷ [])) (segments_from b qs) (step_of (last_of b qs) q) (segments_from-push b qs q)

step_short : (b : Bool) (x : Pt × Pt) → length (cond b [] (x ∷ [])) ≤ 1
step_short true x = omega arith
step_short false x = omega arith

pub segments-push-le : (pts : List Pt) (q : Pt) → length (segments (pts ++ q ∷ [])) ≤ length (segments pts) + 1
segments-push-le [] q = omega arith
segments-push-le (a ∷ qs) q = rw (segments_from-push a qs q) (omega (arith, length-append (segments_from a qs) (step_of (last_of a qs) q), step_short (same_point (last_of a qs) q) (last_of a qs, q)))

pub last_of-push : (a : Pt) (qs : List Pt) (q : Pt) → last_of a (qs ++ q ∷ []) ≡ q
last_of-push a [] q = refl
last_of-push a (b ∷ qs) q = last_of-push b qs q

abbrev pub outline_of : List (Pt × Pt) → Sketch
outline_of ss = record { segments = min (length ss) u32_max; bounds = box ss }

outline_is : (k l : ℕ) (b d : Option Corners) → k ≡ l → b ≡ d → (let x : Sketch = record { segments = k; bounds = b } in x) ≡ record { segments = l; bounds = d }
outline_is k l b d e f = ap (λ (x : ℕ). let y : Sketch = record { segments = x; bounds = b } in y) e ∙ ap (λ (x : Option Corners). let y : Sketch = record { segments = l; bounds = x } in y) f

outline_push : (ss : List (Pt × Pt)) (a q : Pt) → outline_of (ss ++ (a, q) ∷ []) ≡ lengthened (outline_of ss) a q
outline_push ss a q =
    let l : min (length (ss ++ (a, q) ∷ [])) u32_max ≡ min (min (length ss) u32_max + 1) u32_max = simp length_push (omega arith) in
    outline_is _ _ _ _ l (fold-append grown_by None ss ((a, q) ∷ []))

-- ---- rings

or_else_assoc : (a b c : Option Fault) → or_else a (or_else b c) ≡ or_else (or_else a b) c
or_else_assoc None b c = refl
or_else_assoc (Some f) b c = refl

first_fault-append : (rs : List Ring) (r : Ring) → first_fault (rs ++ r ∷ []) ≡ or_else (first_fault rs) (fault_at r.at (map place_of r.points))
first_fault-append [] r = elim (fault_at r.at (map place_of r.points)) as (λ o. or_else o None ≡ o) [ None ↦ refl | Some f ↦ refl ]
first_fault-append (q ∷ rs) r = ap (or_else (fault_at q.at (map place_of q.points))) (first_fault-append rs r) ∙ or_else_assoc (fault_at q.at (map place_of q.points)) (first_fault rs) (fault_at r.at (map place_of r.points))

-- the first and the last point of a list
abbrev pub Ends : Pt → Pt → List Pt → Type 0
Ends first last [] = Unit {0}
Ends first last (p ∷ ps) = (first ≡ p) × (last ≡ last_of p ps)

few : (k : ℕ) → nat_lt (min k u32_max) 4 ≡ nat_lt k 4
few k = grind (arith, nat_tests)

-- ---- what the survey knows

pub record Clean (s : Shown) (rings : List Ring) (at : ℕ) (ps : List Point) : Type 0 where
  pub inside : first_outside (read_numbers rings ps) ≡ None
  pub fault : s.fault ≡ first_fault rings
  pub outline : s.outline ≡ outline_of (read_segments rings ps)
  pub at_is : s.ring_at ≡ at
  pub count : s.points ≡ min (length ps) u32_max
  pub ends : Ends s.first s.last (map place_of ps)

abbrev pub Surveyed : Shown → List Ring → ℕ → List Point → Type 0
Surveyed s rings at ps = MatchOption s.outside (Clean s rings at ps) (λ o. first_outside (read_numbers rings ps) ≡ Some o)

-- ---- a number

abs_signed : (g : Bool) (k : ℕ) → unsigned_abs (signed g k) ≡ k
abs_signed true zero = refl
abs_signed true (suc k) = refl
abs_signed false k = refl

lt_same : (k : ℕ) → nat_lt coordinate_limit (min k u32_max) ≡ nat_lt coordinate_limit k
lt_same k = grind (arith, nat_tests)

small_same : (k : ℕ) → nat_lt coordinate_limit k ≡ false → min k u32_max ≡ k
small_same k h = grind (arith, nat_tests)

either : (b : Bool) → (b ≡ true) ⊎ (b ≡ false)
either true = inl refl
either false = inr refl

abbrev pub Valued : Numeral → Number → Type 0
Valued c x = ((value_of c ≡ None) × (nat_lt coordinate_limit (unsigned_abs x.value) ≡ true)) ⊎ ((value_of c ≡ Some x.value) × (nat_lt coordinate_limit (unsigned_abs x.value) ≡ false))

pub value_cases : (c : Numeral) (x : Number) → IsNumeralFor c x → Valued c x
value_cases c x (k, at, v, mag) =
    let abs : unsigned_abs x.value ≡ k = ap unsigned_abs v ∙ abs_signed c.negative k in
    let test : nat_lt coordinate_limit c.magnitude ≡ nat_lt coordinate_limit k = ap (nat_lt coordinate_limit) mag ∙ lt_same k in
    elim (either (nat_lt coordinate_limit k)) [
      | inl e ↦ inl (ap (λ (b : Bool). cond b None (Some (signed c.negative c.magnitude))) (test ∙ e), ap (nat_lt coordinate_limit) abs ∙ e)
      | inr e ↦
          let same : signed c.negative c.magnitude ≡ x.value = ap (signed c.negative) (mag ∙ small_same k e) ∙ sym v in
          inr (ap (λ (b : Bool). cond b None (Some (signed c.negative c.magnitude))) (test ∙ e) ∙ ap (λ (z : ℤ). Some z) same, ap (nat_lt coordinate_limit) abs ∙ e)
    ]

-- ---- a point

not_first : (k : ℕ) → eqb (min (suc k) u32_max) 0 ≡ false
not_first k = grind (arith, nat_tests)

with_step : (b : Bool) (ss : List (Pt × Pt)) (l q : Pt) → cond b (outline_of ss) (lengthened (outline_of ss) l q) ≡ outline_of (ss ++ cond b [] ((l, q) ∷ []))
with_step true ss l q = ap outline_of (sym (append-nil ss))
with_step false ss l q = sym (outline_push ss l q)

added_outline : (s : Shown) (rings : List Ring) (pts : List Pt) (q : Pt) → s.points ≡ min (length pts) u32_max → Ends s.first s.last pts → s.outline ≡ outline_of (all_segments rings ++ segments pts)
    → (added s q).outline ≡ outline_of (all_segments rings ++ segments (pts ++ q ∷ []))
added_outline s rings [] q n e o = ap (λ (b : Bool). cond b s.outline (cond (same_point s.last q) s.outline (lengthened s.outline s.last q))) (ap (λ (k : ℕ). eqb k 0) n) ∙ o
added_outline s rings (a ∷ qs) q n e o =
    let l = last_of a qs in
    let ss = all_segments rings ++ segments_from a qs in
    let more : all_segments rings ++ segments_from a (qs ++ q ∷ []) ≡ ss ++ step_of l q =
    ap (λ (x : List (Pt × Pt)). all_segments rings ++ x) (segments_from-push a qs q) ∙ sym (append_assoc (all_segments rings) (segments_from a qs) (step_of l q)) in
    let lhs : (added s q).outline ≡ cond (same_point l q) (outline_of ss) (lengthened (outline_of ss) l q) =
    ap (λ (b : Bool). cond b s.outline (cond (same_point s.last q) s.outline (lengthened s.outline s.last q))) (ap (λ (k : ℕ). eqb k 0) n ∙ not_first (length qs))
    ∙ ap (λ (x : Pt). cond (same_point x q) s.outline (lengthened s.outline x q)) e.1
    ∙ ap (λ (x : Sketch). cond (same_point l q) x (lengthened x l q)) o in
    lhs ∙ with_step (same_point l q) ss l q ∙ ap outline_of (sym more)

added_ends : (s : Shown) (pts : List Pt) (q : Pt) → s.points ≡ min (length pts) u32_max → Ends s.first s.last pts → Ends (added s q).first (added s q).last (pts ++ q ∷ [])
added_ends s [] q n e = (ap (λ (b : Bool). cond b q s.first) (ap (λ (k : ℕ). eqb k 0) n), refl)
added_ends s (a ∷ qs) q n e = (ap (λ (b : Bool). cond b q s.first) (ap (λ (k : ℕ). eqb k 0) n ∙ not_first (length qs)) ∙ e.0, sym (last_of-push a qs q))

added_count : (c : ℕ) (ps : List Point) (p : Point) → c ≡ min (length ps) u32_max → min (c + 1) u32_max ≡ min (length (ps ++ p ∷ [])) u32_max
added_count c ps p e = simp length_push (omega arith)

two_inside : (x y : Number) → nat_lt coordinate_limit (unsigned_abs x.value) ≡ false → nat_lt coordinate_limit (unsigned_abs y.value) ≡ false → first_outside (x ∷ y ∷ []) ≡ None
two_inside x y e f = rw (e, f) refl

added_clean : (s : Shown) (rings : List Ring) (at : ℕ) (ps : List Point) (p : Point) → first_outside (p.x ∷ p.y ∷ []) ≡ None → Clean s rings at ps → Clean (added s (place_of p)) rings at (ps ++ p ∷ [])
added_clean s rings at ps p none c =
    let n : s.points ≡ min (length (map place_of ps)) u32_max = c.count ∙ ap (λ (k : ℕ). min k u32_max) (sym (length-map ps place_of)) in
    let pts : map place_of (ps ++ p ∷ []) ≡ map place_of ps ++ place_of p ∷ [] = map_push place_of ps p in
    record {
      inside = ap first_outside (more_numbers rings ps p) ∙ outside_then (read_numbers rings ps) (p.x ∷ p.y ∷ []) c.inside ∙ none;
      fault = c.fault;
      outline = added_outline s rings (map place_of ps) (place_of p) n c.ends c.outline ∙ ap (λ (x : List Pt). outline_of (all_segments rings ++ segments x)) (sym pts);
      at_is = c.at_is;
      count = added_count s.points ps p c.count;
      ends = subst (λ (x : List Pt). Ends (added s (place_of p)).first (added s (place_of p)).last x) (sym pts) (added_ends s (map place_of ps) (place_of p) n c.ends);
    }

-- the values of a point's numbers
valued_step : (s : Shown) (x y : Numeral) (rings : List Ring) (at : ℕ) (ps : List Point) (p : Point) → s.outside ≡ None → StandFor x y p → Valued x p.x → Valued y p.y → Clean s rings at ps
    → Surveyed (valued s x y (value_of x) (value_of y)) rings at (ps ++ p ∷ [])
valued_step s x y rings at ps p out h (inl (e, f)) v c =
    let found : first_outside (p.x ∷ p.y ∷ []) ≡ Some x.at = ap (λ (b : Bool). cond b (Some p.x.at) (first_outside (p.y ∷ []))) f ∙ ap (λ (k : ℕ). Some k) h.0.1 in
    subst (λ (o : Option ℤ). Surveyed (valued s x y o (value_of y)) rings at (ps ++ p ∷ [])) (sym e)
    (ap first_outside (more_numbers rings ps p) ∙ outside_then (read_numbers rings ps) (p.x ∷ p.y ∷ []) c.inside ∙ found)
valued_step s x y rings at ps p out h (inr (e, f)) (inl (g, i)) c =
    let found : first_outside (p.x ∷ p.y ∷ []) ≡ Some y.at = ap (λ (b : Bool). cond b (Some p.x.at) (first_outside (p.y ∷ []))) f ∙ ap (λ (b : Bool). cond b (Some p.y.at) None) i ∙ ap (λ (k : ℕ). Some k) h.1.1 in
    subst (λ (o : Option ℤ). Surveyed (valued s x y o (value_of y)) rings at (ps ++ p ∷ [])) (sym e)
    (subst (λ (o : Option ℤ). Surveyed (valued s x y (Some p.x.value) o) rings at (ps ++ p ∷ [])) (sym g)
    (ap first_outside (more_numbers rings ps p) ∙ outside_then (read_numbers rings ps) (p.x ∷ p.y ∷ []) c.inside ∙ found))
valued_step s x y rings at ps p out h (inr (e, f)) (inr (g, i)) c =
    subst (λ (o : Option ℤ). Surveyed (valued s x y o (value_of y)) rings at (ps ++ p ∷ [])) (sym e)
    (subst (λ (o : Option ℤ). Surveyed (valued s x y (Some p.x.value) o) rings at (ps ++ p ∷ [])) (sym g)
    (subst (λ (o : Option ℕ). MatchOption o (Clean (added s (place_of p)) rings at (ps ++ p ∷ [])) (λ o. first_outside (read_numbers rings (ps ++ p ∷ [])) ≡ Some o)) (sym out)
    (added_clean s rings at ps p (two_inside p.x p.y f i) c)))

point_step : (s : Shown) (x y : Numeral) (rings : List Ring) (at : ℕ) (ps : List Point) (p : Point) (o : Option ℕ) → s.outside ≡ o → StandFor x y p → Surveyed s rings at ps → Surveyed (pointed s x y) rings at (ps ++ p ∷ [])
point_step s x y rings at ps p None out h c =
    let clean : Clean s rings at ps = subst (λ (o : Option ℕ). MatchOption o (Clean s rings at ps) (λ o. first_outside (read_numbers rings ps) ≡ Some o)) out c in
    subst (λ (o : Option ℕ). Surveyed (unless_outside o s (valued s x y (value_of x) (value_of y))) rings at (ps ++ p ∷ [])) (sym out)
    (valued_step s x y rings at ps p out h (value_cases x p.x h.0) (value_cases y p.y h.1) clean)
point_step s x y rings at ps p (Some k) out h c =
    let found : first_outside (read_numbers rings ps) ≡ Some k = subst (λ (o : Option ℕ). MatchOption o (Clean s rings at ps) (λ o. first_outside (read_numbers rings ps) ≡ Some o)) out c in
    let more : first_outside (read_numbers rings (ps ++ p ∷ [])) ≡ Some k = ap first_outside (more_numbers rings ps p) ∙ outside_found (read_numbers rings ps) (p.x ∷ p.y ∷ []) k found in
    subst (λ (o : Option ℕ). Surveyed (unless_outside o s (valued s x y (value_of x) (value_of y))) rings at (ps ++ p ∷ [])) (sym out)
    (subst (λ (o : Option ℕ). MatchOption o (Clean s rings at (ps ++ p ∷ [])) (λ o. first_outside (read_numbers rings (ps ++ p ∷ [])) ≡ Some o)) (sym out) more)

-- ---- a ring

ring_fault_is : (s : Shown) (at : ℕ) (pts : List Pt) → s.ring_at ≡ at → s.points ≡ min (length pts) u32_max → Ends s.first s.last pts → ring_fault s ≡ fault_at at pts
ring_fault_is s at [] e n h = ap (λ (b : Bool). cond b (Some (RingShort s.ring_at)) (cond (same_point s.first s.last) None (Some (RingOpen s.ring_at)))) (ap (λ (k : ℕ). ltb k 4) n) ∙ ap (λ (k : ℕ). Some (RingShort k)) e
ring_fault_is s at (p ∷ ps) e n h =
    ap (λ (b : Bool). cond b (Some (RingShort s.ring_at)) (cond (same_point s.first s.last) None (Some (RingOpen s.ring_at)))) (ap (λ (k : ℕ). ltb k 4) n ∙ few (suc (length ps)))
    ∙ ap (λ (k : ℕ). cond (ltb (suc (length ps)) 4) (Some (RingShort k)) (cond (same_point s.first s.last) None (Some (RingOpen k)))) e
    ∙ ap (λ (x : Pt). cond (ltb (suc (length ps)) 4) (Some (RingShort at)) (cond (same_point x s.last) None (Some (RingOpen at)))) h.0
    ∙ ap (λ (x : Pt). cond (ltb (suc (length ps)) 4) (Some (RingShort at)) (cond (same_point p x) None (Some (RingOpen at)))) h.1

or_ring_is : (o : Option Fault) (s : Shown) → or_ring o s ≡ or_else o (ring_fault s)
or_ring_is None s = refl
or_ring_is (Some f) s = refl

close_clean : (s : Shown) (rings : List Ring) (at : ℕ) (ps : List Point) → Clean s rings at ps → Clean (closed_ring s) (rings ++ record { at = at; points = ps } ∷ []) at []
close_clean s rings at ps c =
    let n : s.points ≡ min (length (map place_of ps)) u32_max = c.count ∙ ap (λ (k : ℕ). min k u32_max) (sym (length-map ps place_of)) in
    record {
      inside = ap first_outside (closed_numbers rings at ps) ∙ c.inside;
      fault = or_ring_is s.fault s ∙ ap (λ (o : Option Fault). or_else o (ring_fault s)) c.fault ∙ ap (or_else (first_fault rings)) (ring_fault_is s at (map place_of ps) c.at_is n c.ends) ∙ sym (first_fault-append rings (record { at = at; points = ps }));
      outline = c.outline ∙ ap outline_of (sym (closed_segments rings at ps));
      at_is = c.at_is;
      count = refl;
      ends = tt;
    }

close_step : (s : Shown) (rings : List Ring) (at : ℕ) (ps : List Point) (o : Option ℕ) → s.outside ≡ o → Surveyed s rings at ps → Surveyed (closed_ring s) (rings ++ record { at = at; points = ps } ∷ []) at []
close_step s rings at ps None out c =
    let clean : Clean s rings at ps = subst (λ (o : Option ℕ). MatchOption o (Clean s rings at ps) (λ o. first_outside (read_numbers rings ps) ≡ Some o)) out c in
    subst (λ (o : Option ℕ). MatchOption o (Clean (closed_ring s) (rings ++ record { at = at; points = ps } ∷ []) at []) (λ o. first_outside (read_numbers (rings ++ record { at = at; points = ps } ∷ []) []) ≡ Some o)) (sym out) (close_clean s rings at ps clean)
close_step s rings at ps (Some k) out c =
    let found : first_outside (read_numbers rings ps) ≡ Some k = subst (λ (o : Option ℕ). MatchOption o (Clean s rings at ps) (λ o. first_outside (read_numbers rings ps) ≡ Some o)) out c in
    subst (λ (o : Option ℕ). MatchOption o (Clean (closed_ring s) (rings ++ record { at = at; points = ps } ∷ []) at []) (λ o. first_outside (read_numbers (rings ++ record { at = at; points = ps } ∷ []) []) ≡ Some o)) (sym out) (ap first_outside (closed_numbers rings at ps) ∙ found)

open_step : (s : Shown) (rings : List Ring) (a at : ℕ) (o : Option ℕ) → s.outside ≡ o → Surveyed s rings a [] → Surveyed (opened_at s at) rings at []
open_step s rings a at None out c =
    let clean : Clean s rings a [] = subst (λ (o : Option ℕ). MatchOption o (Clean s rings a []) (λ o. first_outside (read_numbers rings []) ≡ Some o)) out c in
    subst (λ (o : Option ℕ). MatchOption o (Clean (opened_at s at) rings at []) (λ o. first_outside (read_numbers rings []) ≡ Some o)) (sym out)
    (record { inside = clean.inside; fault = clean.fault; outline = clean.outline; at_is = refl; count = refl; ends = tt })
open_step s rings a at (Some k) out c =
    subst (λ (o : Option ℕ). MatchOption o (Clean (opened_at s at) rings at []) (λ o. first_outside (read_numbers rings []) ≡ Some o)) (sym out)
    (subst (λ (o : Option ℕ). MatchOption o (Clean s rings a []) (λ o. first_outside (read_numbers rings []) ≡ Some o)) out c)

-- ---- an event

abbrev pub SurveyedAt : Shown → Notes → Type 0
SurveyedAt s m = Surveyed s m.rings m.ring_at m.points

at_notes : (s : Shown) (r r' : List Ring) (a a' : ℕ) (p p' : List Point) → r ≡ r' → a ≡ a' → p ≡ p' → Surveyed s r a p → Surveyed s r' a' p'
at_notes s r r' a a' p p' e f g h = subst (λ (x : List Point). Surveyed s r' a' x) g (subst (λ (x : ℕ). Surveyed s r' x p) f (subst (λ (x : List Ring). Surveyed s x a p) e h))

pub noted_survey : (s : Shown) (at : ℕ) (e : Event) (m m' : Notes) → Says e at m m' → SurveyedAt s m → SurveyedAt (took s at e) m'
noted_survey s at Nothing m m' h c = at_notes s m.rings m'.rings m.ring_at m'.ring_at m.points m'.points (sym h.0) (sym h.1) (sym h.2) c
noted_survey s at Geometry m m' h c = at_notes s m.rings m'.rings m.ring_at m'.ring_at m.points m'.points (sym h.0) (sym h.1) (sym h.2) c
noted_survey s at Opens m m' h c =
    at_notes (opened_at s at) m.rings m'.rings at m'.ring_at [] m'.points (sym h.0) (sym h.1) (sym h.2)
    (open_step s m.rings m.ring_at at s.outside refl (subst (λ (x : List Point). Surveyed s m.rings m.ring_at x) h.3 c))
noted_survey s at (EventPoint x y) m m' h c =
    at_notes (pointed s x y) m.rings m'.rings m.ring_at m'.ring_at (m.points ++ h.0 ∷ []) m'.points (sym h.2) (sym h.3) (sym h.4)
    (point_step s x y m.rings m.ring_at m.points h.0 s.outside refl h.1 c)
noted_survey s at (Last x y) m m' h c =
    at_notes (closed_ring (pointed s x y)) (m.rings ++ record { at = m.ring_at; points = m.points ++ h.0 ∷ [] } ∷ []) m'.rings m.ring_at m'.ring_at [] m'.points (sym h.3) (sym h.2) (sym h.4)
    (close_step (pointed s x y) m.rings m.ring_at (m.points ++ h.0 ∷ []) (pointed s x y).outside refl (point_step s x y m.rings m.ring_at m.points h.0 s.outside refl h.1 c))
noted_survey s at Closes m m' h c =
    at_notes (closed_ring s) (m.rings ++ record { at = m.ring_at; points = m.points } ∷ []) m'.rings m.ring_at m'.ring_at [] m'.points (sym h.1) (sym h.0) (sym h.2)
    (close_step s m.rings m.ring_at m.points s.outside refl c)
