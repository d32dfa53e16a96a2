-- What is written of a number is read again.
use Rattle.std.proofs.Common.{◌≡◌, ℕ, ◌+◌, ◌-◌, ◌*◌, ◌^◌, ◌<◌, ◌≤◌, Bool, true, false, cond, Option, Some, None, take, List, [], ◌∷◌, ◌++◌, length, refl, sym, ap, subst, ◌∙◌, append_assoc, arith, rules, ℤ, pos, negsuc, inl, inr, suc}
use Rattle.std.specs.Prelude.{IsTrue, All, codes, map, nat_lt}
use Rattle.std.specs.List.{AllByRecursion}
use Rattle.std.specs.Int.{IsInRange}
use Rattle.std.specs.Fmt.{decimal, signed_decimal}
use Rattle.std.specs.Str.{all_ascii_digits}
use Rattle.std.specs.Str.Parse.{IsNumeral, AllDigits}
use Rattle.std.proofs.lemmas.Fmt.{digits_value-decimal, decimal_is_IsNumeral}
use Rattle.std.proofs.lemmas.Str.Parse.{IsNumeralModel, numerals_by_fold, digit_from_value}
use Rattle.std.proofs.lemmas.Bool.Decides.{nat_tests}
use Rattle.std.specs.List.{flat_map}
use Rattle.std.proofs.lemmas.List.{append-nil, length-map, length_push, map-append}
use Rattle.geom.specs.declared.fault.Fault.{Fault}
use Rattle.geom.specs.declared.fault.Fault.TheVariants.{RingShort, RingOpen}
use Rattle.geom.specs.declared.point.Pt.{Pt}
use Rattle.geom.specs.Limit.{IsWithin, InLimit}
use Rattle.geom.specs.Segments.{same_point}
use Rattle.geom.specs.Canonical.{Shape, written_rings}
use Rattle.geom.specs.Words.{pt_words}
use Rattle.geom.proofs.Integers.{linear}
use Rattle.geom.proofs.Points.{same_point_refl}
use Rattle.wkt.specs.Refusals.{IsLayerOf, place_of, is_closed, fault_at, or_else, numbers, all_numbers, first_outside, first_fault, plain, StandsFor}
use Rattle.wkt.specs.Canonical.{closed, more_of, listed, ring_text, polygon_text, multi_text}
use Rattle.wkt.specs.Readable.{IsReadable, IsShort, number_limit}
use Rattle.wkt.proofs.Surveys.{outside_then, last_of-push}
use Rattle.wkt.proofs.Inside.{of_all, of_within}
use Rattle.wkt.specs.LayerText.{Number, Point, Ring, is_digit, Digits, IsNumber, value_after, Gap, Word, IsPoint, More, Listed, IsRing, IsBody, Spaces, joined, multipolygon_word, empty_word, IsLayer}

own : IsNumeralModel (λ ds. all_ascii_digits ds ≡ true) (value_after 0)
own = numerals_by_fold _ (search rules) value_after (search rules)

digit : (d : ℕ) → IsInRange 48 57 d → IsTrue (is_digit d)
digit d h = grind (arith, nat_tests, h)

all_digits : (ds : List ℕ) → AllDigits 10 ds → AllByRecursion (λ b. IsTrue (is_digit b)) ds
all_digits [] h = tt
all_digits (d ∷ ds) h = (digit d (digit_from_value d h.0), all_digits ds h.1)

first : (d : ℕ) → 10 * 0 + (d - 48) ≡ d - 48
first d = omega arith

split : (ds rest : List ℕ) (k : ℕ) → IsNumeral 10 ds → value_after 0 ds ≡ k → Digits (ds ++ rest) k rest
split [] rest k h e = absurd (omega (arith, h.0))
split (d ∷ ds) rest k h e = (d, ds, digit d (digit_from_value d h.1.0), all_digits ds h.1.1, refl, sym e ∙ ap (λ (x : ℕ). value_after x ds) (first d))

pub digits_written : (k : ℕ) (rest : List ℕ) → k < 2 ^ 64 → Digits (decimal k ++ rest) k rest
digits_written k rest h = split (decimal k) rest k (decimal_is_IsNumeral k h).0 (digits_value-decimal own k h)

-- ---- numbers and points

-- some number of the text is this one
number_written : (n : ℕ) (x : ℤ) (rest : List ℕ) → IsWithin number_limit x → (v : Number) × IsNumber n (signed_decimal x ++ rest) v rest × (v.value ≡ x)
number_written n (pos k) rest h =
    (record { at = n - length (signed_decimal (pos k) ++ rest); value = pos k }, (k, inl (digits_written k rest (let l = h.high in omega (arith, linear, l)), refl)), refl)
number_written n (negsuc k) rest h =
    (record { at = n - length (signed_decimal (negsuc k) ++ rest); value = negsuc k }, (suc k, inr (decimal (suc k) ++ rest, refl, digits_written (suc k) rest (let l = h.low in omega (arith, linear, l)), refl)), refl)

one_space : (u : List ℕ) → Gap (32 ∷ u) u
one_space u = (32, u, refl, refl, ([], tt, refl))

point_is : (p q : Pt) → p.x ≡ q.x → p.y ≡ q.y → p ≡ q
point_is p q e f = ap (λ (z : ℤ). let r : Pt = record { x = z; y = p.y } in r) e ∙ ap (λ (z : ℤ). let r : Pt = record { x = q.x; y = z } in r) f

point_written : (n : ℕ) (p : Pt) (rest : List ℕ) → IsShort p → (v : Point) × IsPoint n (pt_words p ++ rest) v rest × (place_of v ≡ p)
point_written n p rest h =
    let a = number_written n p.x (32 ∷ (signed_decimal p.y ++ rest)) h.x_in in
    let b = number_written n p.y rest h.y_in in
    let e : pt_words p ++ rest ≡ signed_decimal p.x ++ (32 ∷ (signed_decimal p.y ++ rest)) = append_assoc (signed_decimal p.x) (32 ∷ signed_decimal p.y) rest in
    (record { x = a.0; y = b.0 }, subst (λ (t : List ℕ). IsPoint n t (record { x = a.0; y = b.0 }) rest) (sym e) (32 ∷ (signed_decimal p.y ++ rest), signed_decimal p.y ++ rest, a.1, one_space (signed_decimal p.y ++ rest), b.1), point_is _ _ a.2 b.2)

-- ---- lists

-- each good item is written so that its value is read again, whatever follows
abbrev Again : (A B C : Type 0) → (List ℕ → B → List ℕ → Type 0) → (A → List ℕ) → (B → C) → (A → C) → (A → Type 0) → Type 0
Again A B C Item f read value Good = (x : A) (rest : List ℕ) → Good x → (v : B) × Item (f x ++ rest) v rest × (read v ≡ value x)

cons_is : {A : Type 0} {x y : A} {xs ys : List A} → x ≡ y → xs ≡ ys → (x ∷ xs) ≡ (y ∷ ys)
cons_is e f = cc

more_written : {A B C : Type 0} (Item : List ℕ → B → List ℕ → Type 0) (f : A → List ℕ) (read : B → C) (value : A → C) (Good : A → Type 0) → Again A B C Item f read value Good
    → (xs : List A) (rest : List ℕ) → AllByRecursion Good xs → (vs : List B) × More Item (more_of f xs ++ (41 ∷ rest)) vs rest × (map read vs ≡ map value xs)
more_written Item f read value Good again [] rest h = ([], ([], tt, refl), refl)
more_written Item f read value Good again (x ∷ xs) rest h =
    let tail = more_of f xs ++ (41 ∷ rest) in
    let a = again x tail h.0 in
    let b = more_written Item f read value Good again xs rest h.1 in
    let e : more_of f (x ∷ xs) ++ (41 ∷ rest) ≡ 44 ∷ 32 ∷ (f x ++ tail) = ap (λ (t : List ℕ). 44 ∷ 32 ∷ t) (append_assoc (f x) (more_of f xs) (41 ∷ rest)) in (
      a.0 ∷ b.0,
      subst (λ (t : List ℕ). More Item t (a.0 ∷ b.0) rest) (sym e) (32 ∷ (f x ++ tail), f x ++ tail, tail, ([], tt, refl), (32 ∷ [], (refl, tt), refl), a.1, b.1),
      cons_is a.2 b.2,
    )

listed_written : {A B C : Type 0} (Item : List ℕ → B → List ℕ → Type 0) (f : A → List ℕ) (read : B → C) (value : A → C) (Good : A → Type 0) → Again A B C Item f read value Good
    → (x : A) (xs : List A) (rest : List ℕ) → AllByRecursion Good (x ∷ xs) → (vs : List B) × Listed Item (listed f x xs ++ rest) vs rest × (map read vs ≡ map value (x ∷ xs))
listed_written Item f read value Good again x xs rest h =
    let tail = more_of f xs ++ (41 ∷ rest) in
    let a = again x tail h.0 in
    let b = more_written Item f read value Good again xs rest h.1 in
    let e : listed f x xs ++ rest ≡ 40 ∷ (f x ++ tail) =
    ap (λ (t : List ℕ). 40 ∷ t) (append_assoc (f x) (more_of f xs ++ 41 ∷ []) rest ∙ ap (λ (t : List ℕ). f x ++ t) (append_assoc (more_of f xs) (41 ∷ []) rest)) in
    (a.0 ∷ b.0, subst (λ (t : List ℕ). Listed Item t (a.0 ∷ b.0) rest) (sym e) (f x ++ tail, f x ++ tail, tail, a.0, b.0, refl, ([], tt, refl), a.1, b.1, refl), cons_is a.2 b.2)

-- ---- rings and polygons

abbrev read_ring : Ring → List Pt
read_ring r = map place_of r.points

pub record GoodRing (ps : List Pt) : Type 0 where
  pub enough : 3 ≤ length ps
  pub inside : AllByRecursion IsShort ps

same_map : {A : Type 0} (xs : List A) → map (λ x. x) xs ≡ xs
same_map [] = refl
same_map (x ∷ xs) = ap (λ (ys : List _). x ∷ ys) (same_map xs)

both : {A : Type 0} (P : A → Type 0) (xs : List A) (y : A) → AllByRecursion P xs → P y → AllByRecursion P (xs ++ y ∷ [])
both P [] y h k = (k, tt)
both P (x ∷ xs) y h k = (h.0, both P xs y h.1 k)

ring_written : (n : ℕ) (ps : List Pt) (rest : List ℕ) → GoodRing ps → (r : Ring) × IsRing n (ring_text ps ++ rest) r rest × (read_ring r ≡ closed ps)
ring_written n [] rest h = absurd (let l = h.enough in omega (arith, l))
ring_written n (p ∷ ps) rest h =
    let inside = h.inside in
    let a = listed_written (IsPoint n) pt_words place_of (λ q. q) IsShort (point_written n) p (ps ++ p ∷ []) rest (inside.0, both IsShort ps p inside.1 inside.0) in
    (record { at = n - length (ring_text (p ∷ ps) ++ rest); points = a.0 }, (a.1, refl), a.2 ∙ same_map (p ∷ (ps ++ p ∷ [])))

abbrev value_of_polygon : Shape → List (List Pt)
value_of_polygon p = map closed (p.shell ∷ p.holes)

abbrev GoodPolygon : Shape → Type 0
GoodPolygon p = AllByRecursion GoodRing (p.shell ∷ p.holes)

polygon_written : (n : ℕ) (p : Shape) (rest : List ℕ) → GoodPolygon p → (v : List Ring) × IsBody n (polygon_text p ++ rest) v rest × (map read_ring v ≡ value_of_polygon p)
polygon_written n p rest h = listed_written (IsRing n) ring_text read_ring closed GoodRing (ring_written n) p.shell p.holes rest h

capital : (cs t : List ℕ) → Word cs (cs ++ t) t
capital [] t = refl
capital (c ∷ cs) t = (c, cs ++ t, refl, inl refl, capital cs t)

joined_read : (vs : List (List Ring)) → map read_ring (joined vs) ≡ flat_map (λ x. x) (map (λ v. map read_ring v) vs)
joined_read [] = refl
joined_read (v ∷ vs) = map-append read_ring v (joined vs) ∙ ap (λ (x : List (List Pt)). map read_ring v ++ x) (joined_read vs)

joined_values : (ps : List Shape) → flat_map (λ x. x) (map value_of_polygon ps) ≡ map closed (written_rings ps)
joined_values [] = refl
joined_values (p ∷ ps) =
    ap (λ (x : List (List Pt)). map closed (p.shell ∷ p.holes) ++ x) (joined_values ps) ∙ sym (map-append closed (p.shell ∷ p.holes) (written_rings ps))

-- the line, and what stands in place of its line feed
abbrev pub line_before : List Shape → List ℕ → List ℕ
line_before [] end = codes "MULTIPOLYGON EMPTY" ++ end
line_before (p ∷ ps) end = codes "MULTIPOLYGON " ++ (listed polygon_text p ps ++ end)

pub line_ended : (polygons : List Shape) → multi_text polygons ≡ line_before polygons (10 ∷ [])
line_ended [] = refl
line_ended (p ∷ ps) = refl

pub line_split : (polygons : List Shape) → multi_text polygons ≡ line_before polygons [] ++ 10 ∷ []
line_split [] = refl
line_split (p ∷ ps) = ap (λ (t : List ℕ). codes "MULTIPOLYGON " ++ (t ++ 10 ∷ [])) (sym (append-nil (listed polygon_text p ps)))

-- What is written is a layer of the polygons' rings, with and without its line feed.
line_read : (polygons : List Shape) (end : List ℕ) → Spaces end [] → AllByRecursion GoodPolygon polygons
    → (rings : List Ring) × IsLayer (line_before polygons end) rings × (map read_ring rings ≡ map closed (written_rings polygons))
unfolding IsLayer
line_read [] end blank h =
    let text : List ℕ = multipolygon_word ++ 32 ∷ (empty_word ++ end) in
    ([], inr (text, end, [], [], ([], tt, refl), (32 ∷ (empty_word ++ end), inr (capital multipolygon_word (32 ∷ (empty_word ++ end)), inr (empty_word ++ end, one_space (empty_word ++ end), capital empty_word end, refl))), blank, refl), refl)
line_read (p ∷ ps) end blank h =
    let inner = listed polygon_text p ps ++ end in
    let text : List ℕ = multipolygon_word ++ 32 ∷ inner in
    let n = length text in
    let a = listed_written (IsBody n) polygon_text (λ v. map read_ring v) value_of_polygon GoodPolygon (polygon_written n) p ps end h in (
      joined a.0 ++ [],
      inr (text, end, joined a.0, [], ([], tt, refl), (32 ∷ inner, inr (capital multipolygon_word (32 ∷ inner), inl (inner, a.0, (32 ∷ [], (refl, tt), refl), a.1, refl))), blank, refl),
      ap (map read_ring) (append-nil (joined a.0)) ∙ joined_read a.0 ∙ ap (λ (x : List (List (List Pt))). flat_map (λ y. y) x) a.2 ∙ joined_values (p ∷ ps),
    )

-- ---- nothing is wrong with what is written

point_outside : (p : Point) (rest : List Number) → InLimit (place_of p) → first_outside (p.x ∷ p.y ∷ rest) ≡ first_outside rest
point_outside p rest h = rw (of_within p.x.value h.x_in, of_within p.y.value h.y_in) refl

points_inside : (ps : List Point) → AllByRecursion InLimit (map place_of ps) → first_outside (numbers ps) ≡ None
points_inside [] h = refl
points_inside (p ∷ ps) h = point_outside p (numbers ps) h.0 ∙ points_inside ps h.1

head_is : {A : Type 0} {x y : A} {xs ys : List A} → (x ∷ xs) ≡ (y ∷ ys) → x ≡ y
head_is e = cc

tail_is : {A : Type 0} {x y : A} {xs ys : List A} → (x ∷ xs) ≡ (y ∷ ys) → xs ≡ ys
tail_is e = cc

no_fault : (b c : Bool) (at : ℕ) → b ≡ false → c ≡ true → cond b (Some (RingShort at)) (cond c None (Some (RingOpen at))) ≡ None
no_fault true c at e f = absurd cc
no_fault false true at e f = refl
no_fault false false at e f = absurd cc

long : (k : ℕ) → 4 ≤ k → nat_lt k 4 ≡ false
long k h = grind (arith, nat_tests)

closed_length : (p : Pt) (ps : List Pt) → 3 ≤ length (p ∷ ps) → 4 ≤ length (closed (p ∷ ps))
closed_length p ps h = omega (arith, h, length_push ps p)

closed_sound : (at : ℕ) (ps : List Pt) → GoodRing ps → fault_at at (closed ps) ≡ None
closed_sound at [] h = absurd (let l = h.enough in omega (arith, l))
closed_sound at (p ∷ ps) h =
    no_fault (nat_lt (length (closed (p ∷ ps))) 4) (is_closed (closed (p ∷ ps))) at (long (length (closed (p ∷ ps))) (closed_length p ps h.enough))
    (ap (same_point p) (last_of-push p ps p) ∙ same_point_refl p)

closed_inside : (ps : List Pt) → AllByRecursion InLimit ps → AllByRecursion InLimit (closed ps)
closed_inside [] h = tt
closed_inside (p ∷ ps) h = (h.0, both InLimit ps p h.1 h.0)

taken : (ps qs : List Pt) → take (length ps) (ps ++ qs) ≡ ps
taken [] qs = refl
taken (p ∷ ps) qs = ap (λ (x : List Pt). p ∷ x) (taken ps qs)

closed_plain : (ps : List Pt) → take (length (closed ps) - 1) (closed ps) ≡ ps
closed_plain [] = refl
closed_plain (p ∷ ps) =
    let k : length (closed (p ∷ ps)) - 1 ≡ length (p ∷ ps) = omega (arith, length_push ps p) in
    ap (λ (n : ℕ). take n (closed (p ∷ ps))) k ∙ taken (p ∷ ps) (p ∷ [])

record Fine (rings : List Ring) (ls : List (List Pt)) : Type 0 where
  inside : first_outside (all_numbers rings) ≡ None
  sound : first_fault rings ≡ None
  points : plain rings ≡ ls

fine : (rings : List Ring) (ls : List (List Pt)) → AllByRecursion GoodRing ls → AllByRecursion (λ ring. All InLimit ring) ls → map read_ring rings ≡ map closed ls → Fine rings ls
fine [] [] h k e = record { inside = refl; sound = refl; points = refl }
fine [] (l ∷ ls) h k e = absurd cc
fine (r ∷ rings) [] h k e = absurd cc
fine (r ∷ rings) (l ∷ ls) h k e =
    let a : read_ring r ≡ closed l = head_is e in
    let more = fine rings ls h.1 k.1 (tail_is e) in
    let count : length r.points ≡ length (closed l) = sym (length-map r.points place_of) ∙ ap (λ (x : List Pt). length x) a in
    record {
      inside = outside_then (numbers r.points) (all_numbers rings) (points_inside r.points (subst (AllByRecursion InLimit) (sym a) (closed_inside l (of_all InLimit l k.0)))) ∙ more.inside;
      sound = ap (λ (o : Option Fault). or_else o (first_fault rings)) (ap (fault_at r.at) a ∙ closed_sound r.at l h.0) ∙ more.sound;
      points = cons_is (ap (λ (k : ℕ). take (k - 1) (read_ring r)) count ∙ ap (λ (x : List Pt). take (length (closed l) - 1) x) a ∙ closed_plain l) more.points;
    }

-- ---- the whole

good : (ls : List (List Pt)) → AllByRecursion IsReadable ls → AllByRecursion GoodRing ls
good [] h = tt
good (l ∷ ls) h = (record { enough = h.0.enough; inside = of_all IsShort l h.0.short }, good ls h.1)

front_all : {A : Type 0} (P : A → Type 0) (xs ys : List A) → AllByRecursion P (xs ++ ys) → AllByRecursion P xs × AllByRecursion P ys
front_all P [] ys h = (tt, h)
front_all P (x ∷ xs) ys h = let k = front_all P xs ys h.1 in ((h.0, k.0), k.1)

polygons_good : (ps : List Shape) → AllByRecursion GoodRing (written_rings ps) → AllByRecursion GoodPolygon ps
polygons_good [] h = tt
polygons_good (p ∷ ps) h = let k = front_all GoodRing (p.shell ∷ p.holes) (written_rings ps) h in (k.0, polygons_good ps k.1)

pub reads : (polygons : List Shape) → All IsReadable (written_rings polygons) → (line : List ℕ) × (multi_text polygons ≡ line ++ 10 ∷ []) × IsLayerOf line (map closed (written_rings polygons))
reads polygons readable = (
  line_before polygons [],
  line_split polygons,
  line_read polygons [] ([], tt, refl) (polygons_good polygons (good (written_rings polygons) (of_all IsReadable (written_rings polygons) readable))),
)

pub reads_again : (polygons : List Shape) → All IsReadable (written_rings polygons) → All (λ ring. All InLimit ring) (written_rings polygons)
    → StandsFor (multi_text polygons) (written_rings polygons)
reads_again polygons readable inside =
    let all = good (written_rings polygons) (of_all IsReadable (written_rings polygons) readable) in
    let read = line_read polygons (10 ∷ []) (10 ∷ [], (refl, tt), refl) (polygons_good polygons all) in
    let f = fine read.0 (written_rings polygons) all (of_all (λ ring. All InLimit ring) (written_rings polygons) inside) read.2 in
    (read.0, record { layer = subst (λ (t : List ℕ). IsLayer t read.0) (sym (line_ended polygons)) read.1; inside = f.inside; sound = f.sound }, f.points)
