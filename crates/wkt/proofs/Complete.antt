-- The machine takes every layer, and notes its rings.
use Rattle.std.proofs.Common.{◌≡◌, ℕ, ◌+◌, ◌-◌, ◌*◌, Bool, true, false, cond, ◌⊎◌, inl, inr, List, [], ◌∷◌, ◌++◌, length, Option, Some, None, refl, sym, ap, subst, ◌∙◌, append_assoc}
use Rattle.std.specs.Prelude.{IsTrue, ◌&&◌, ◌==◌, slice_index, nat_le, nat_lt, option_and_then, option_map}
use Rattle.std.specs.List.{AllByRecursion}
use Rattle.std.proofs.lemmas.List.{append-nil, length-append}
use Rattle.std.proofs.lemmas.Option.{same_Some}
use Rattle.wkt.specs.declared.places.Place.{Place}
use Rattle.wkt.specs.declared.places.Place.TheVariants.{Between, Keyword, KeywordGap, Empty, Ended, BeforeBody, BeforeRing, BeforePoint, MinusX, DigitsX, BeforeY, MinusY, DigitsY, AfterPoint, AfterRing, AfterBody}
use Rattle.wkt.specs.declared.places.Class.{Class}
use Rattle.wkt.specs.declared.places.Class.TheVariants.{Space, Digit, Minus, Open, Letter}
use Rattle.wkt.specs.LayerText.{Number, Point, Ring, is_space, is_digit, Spaces, Gap, Word, value_after, Digits, IsNumber, IsPoint, More, Listed, IsRing, IsBody, joined, polygon_word, multipolygon_word, empty_word, IsEmpty, IsSingle, IsMulti, IsGeometry, Geometries, IsLayer, IsLayerAt}
use Rattle.wkt.specs.Machine.{class_of, opened, closed, Notes, number, with_point, with_ring, with_geometry, State, step, run, start, may_end}
use Rattle.wkt.specs.Features.{IsFeaturesAt, HasFeatures, starts_from}
use Rattle.wkt.proofs.Rests.{AllDigits}
use Rattle.wkt.proofs.Bytes.{class_space, class_digit, class_letter}

abbrev st : Place → Notes → State
st p m = record { place = p; notes = m }

by_class : (n b : ℕ) (t : List ℕ) (p : Place) (m : Notes) (k : Class) → class_of b ≡ k → run n (st p m) (b ∷ t) ≡ option_and_then (λ x. run n x t) (step (n - length (b ∷ t)) (st p m) k)
by_class n b t p m k e = ap (λ (c : Class). option_and_then (λ x. run n x t) (step (n - length (b ∷ t)) (st p m) c)) e

-- the machine stays where it is at white space
abbrev Stays : Place → Notes → Type 0
Stays p m = (at : ℕ) → step at (st p m) Space ≡ Some (st p m)

one_space : (n b : ℕ) (t : List ℕ) (p q : Place) (m m' : Notes) → ((at : ℕ) → step at (st p m) Space ≡ Some (st q m')) → IsTrue (is_space b) → run n (st p m) (b ∷ t) ≡ run n (st q m') t
one_space n b t p q m m' f h = by_class n b t p m Space (class_space b h) ∙ ap (λ (o : Option State). option_and_then (λ x. run n x t) o) (f (n - length (b ∷ t)))

spaces_go : (n : ℕ) (p : Place) (m : Notes) (s u : List ℕ) → Stays p m → AllByRecursion (λ b. IsTrue (is_space b)) s → run n (st p m) (s ++ u) ≡ run n (st p m) u
spaces_go n p m [] u f h = refl
spaces_go n p m (b ∷ s) u f h = one_space n b (s ++ u) p p m m f h.0 ∙ spaces_go n p m s u f h.1

spaces : (n : ℕ) (p : Place) (m : Notes) (t u : List ℕ) → Stays p m → Spaces t u → run n (st p m) t ≡ run n (st p m) u
spaces n p m t u f (s, h, e) = ap (run n (st p m)) e ∙ spaces_go n p m s u f h

gap : (n : ℕ) (p q : Place) (m m' : Notes) (t u : List ℕ) → ((at : ℕ) → step at (st p m) Space ≡ Some (st q m')) → Stays q m' → Gap t u → run n (st p m) t ≡ run n (st q m') u
gap n p q m m' t u f g (b, v, h, e, s) = ap (run n (st p m)) e ∙ one_space n b v p q m m' f h ∙ spaces n q m' v u g s

-- ---- words

-- these letters come next in MULTIPOLYGON from its letter k on
abbrev Follows : ℕ → List ℕ → Type 0
Follows k [] = k ≡ 12
Follows k (c ∷ cs) = ((nat_le 65 c && nat_le c 90) ≡ true) × ((nat_lt k 12 && c == slice_index multipolygon_word k) ≡ true) × Follows (k + 1) cs

word : (n k : ℕ) (m : Notes) (cs t u : List ℕ) → Follows k cs → Word cs t u → run n (st (Keyword k) m) t ≡ run n (st (Keyword 12) m) u
word n k m [] t u f e = ap (λ (j : ℕ). run n (st (Keyword j) m) t) f ∙ ap (run n (st (Keyword 12) m)) e
word n k m (c ∷ cs) t u f (b, v, e, h, more) =
    ap (run n (st (Keyword k) m)) e
    ∙ by_class n b v (Keyword k) m (Letter c) (class_letter b c f.0 h)
    ∙ ap (λ (x : Bool). option_and_then (λ x. run n x v) (option_map (λ p. st p m) (cond x (Some (Keyword (k + 1))) None))) f.1
    ∙ word n (k + 1) m cs v u f.2 more

-- a letter that is written out, in either case
letter : (n b c : ℕ) (t : List ℕ) (p q : Place) (m m' : Notes) → (nat_le 65 c && nat_le c 90) ≡ true → ((at : ℕ) → step at (st p m) (Letter c) ≡ Some (st q m')) → (b ≡ c) ⊎ (b ≡ c + 32) → run n (st p m) (b ∷ t) ≡ run n (st q m') t
letter n b c t p q m m' cap f h = by_class n b t p m (Letter c) (class_letter b c cap h) ∙ ap (λ (o : Option State). option_and_then (λ x. run n x t) o) (f (n - length (b ∷ t)))

letters : (n c : ℕ) (cs : List ℕ) (p q : Place) (m m' : Notes) (t u : List ℕ) → (nat_le 65 c && nat_le c 90) ≡ true → ((at : ℕ) → step at (st p m) (Letter c) ≡ Some (st q m')) → Word (c ∷ cs) t u
    → (v : List ℕ) × (run n (st p m) t ≡ run n (st q m') v) × Word cs v u
letters n c cs p q m m' t u cap f (b, v, e, h, more) = (v, ap (run n (st p m)) e ∙ letter n b c v p q m m' cap f h, more)

empty : (n : ℕ) (m : Notes) (t u : List ℕ) → Word empty_word t u → run n (st KeywordGap m) t ≡ run n (st Ended m) u
empty n m t u w =
    let a = letters n 69 (77 ∷ 80 ∷ 84 ∷ 89 ∷ []) KeywordGap (Empty 1) m m t u refl (λ at. refl) w in
    let b = letters n 77 (80 ∷ 84 ∷ 89 ∷ []) (Empty 1) (Empty 2) m m a.0 u refl (λ at. refl) a.2 in
    let c = letters n 80 (84 ∷ 89 ∷ []) (Empty 2) (Empty 3) m m b.0 u refl (λ at. refl) b.2 in
    let d = letters n 84 (89 ∷ []) (Empty 3) (Empty 4) m m c.0 u refl (λ at. refl) c.2 in
    let e = letters n 89 [] (Empty 4) Ended m m d.0 u refl (λ at. refl) d.2 in
    a.1 ∙ b.1 ∙ c.1 ∙ d.1 ∙ e.1 ∙ ap (run n (st Ended m)) e.2

-- ---- numbers

-- a place where digits go on
abbrev Counts : Place → Type 0
Counts p = (at d : ℕ) (m : Notes) → step at (st p m) (Digit d) ≡ Some (st p (record m { magnitude = 10 * m.magnitude + d }))

one_digit : (n b : ℕ) (t : List ℕ) (p q : Place) (m m' : Notes) → step (n - length (b ∷ t)) (st p m) (Digit (b - 48)) ≡ Some (st q m') → IsTrue (is_digit b) → run n (st p m) (b ∷ t) ≡ run n (st q m') t
one_digit n b t p q m m' f h = by_class n b t p m (Digit (b - 48)) (class_digit b h) ∙ ap (λ (o : Option State). option_and_then (λ x. run n x t) o) f

digits_go : (n : ℕ) (p : Place) (m : Notes) (ds u : List ℕ) → Counts p → AllDigits ds → run n (st p m) (ds ++ u) ≡ run n (st p (record m { magnitude = value_after m.magnitude ds })) u
digits_go n p m [] u f h = refl
digits_go n p m (d ∷ ds) u f h =
    one_digit n d (ds ++ u) p p m (record m { magnitude = 10 * m.magnitude + (d - 48) }) (f (n - length (d ∷ (ds ++ u))) (d - 48) m) h.0
    ∙ digits_go n p (record m { magnitude = 10 * m.magnitude + (d - 48) }) ds u f h.1

-- digits from a place before the first of them
digits : (n : ℕ) (p q : Place) (m m' : Notes) (t : List ℕ) (k : ℕ) (u : List ℕ) → ((d : ℕ) → step (n - length t) (st p m) (Digit d) ≡ Some (st q (record m' { magnitude = d }))) → Counts q → Digits t k u → run n (st p m) t ≡ run n (st q (record m' { magnitude = k })) u
digits n p q m m' t k u f g (d, ds, hd, hds, e, is) =
    let f' : step (n - length (d ∷ (ds ++ u))) (st p m) (Digit (d - 48)) ≡ Some (st q (record m' { magnitude = d - 48 })) = subst (λ (x : List ℕ). step (n - length x) (st p m) (Digit (d - 48)) ≡ Some (st q (record m' { magnitude = d - 48 }))) e (f (d - 48)) in
    ap (run n (st p m)) e
    ∙ one_digit n d (ds ++ u) p q m (record m' { magnitude = d - 48 }) f' hd
    ∙ digits_go n q (record m' { magnitude = d - 48 }) ds u g hds
    ∙ ap (λ (x : ℕ). run n (st q (record m' { magnitude = x })) u) (sym is)

-- a place before a number, the one behind its sign and the one behind a digit
record Reads (p s q : Place) : Type 0 where
  digit : (at d : ℕ) (m : Notes) → step at (st p m) (Digit d) ≡ Some (st q (record m { number_at = at; negative = false; magnitude = d }))
  minus : (at : ℕ) (m : Notes) → step at (st p m) Minus ≡ Some (st s (record m { number_at = at; negative = true; magnitude = 0 }))
  first : (at d : ℕ) (m : Notes) → step at (st s m) (Digit d) ≡ Some (st q (record m { magnitude = d }))
  next : Counts q

reads_x : Reads BeforePoint MinusX DigitsX
reads_x = record { digit = λ at d m. refl; minus = λ at m. refl; first = λ at d m. refl; next = λ at d m. refl }

reads_y : Reads BeforeY MinusY DigitsY
reads_y = record { digit = λ at d m. refl; minus = λ at m. refl; first = λ at d m. refl; next = λ at d m. refl }

-- the notes behind a number
abbrev with_number : Notes → ℕ → Bool → ℕ → Notes
with_number m a g k = record m { number_at = a; negative = g; magnitude = k }

number_goes : (n : ℕ) (p s q : Place) (m : Notes) (t u : List ℕ) (x : Number) → Reads p s q → IsNumber n t x u
    → (a : ℕ) × (g : Bool) × (k : ℕ) × (run n (st p m) t ≡ run n (st q (with_number m a g k)) u) × (number (with_number m a g k) ≡ x)
number_goes n p s q m t u x r (k, inl (ds, e)) =
    (n - length t, false, k, digits n p q m (with_number m (n - length t) false 0) t k u (λ d. r.digit (n - length t) d m) r.next ds, sym e)
number_goes n p s q m t u x r (k, inr (v, minus, ds, e)) =
    let at = n - length (45 ∷ v) in
    let m' = with_number m at true 0 in (
      n - length t,
      true,
      k,
      subst (λ (y : List ℕ). run n (st p m) y ≡ run n (st q (with_number m (n - length y) true k)) u) (sym minus)
          (ap (λ (o : Option State). option_and_then (λ x. run n x v) o) (r.minus at m) ∙ digits n s q m' m' v k u (λ d. r.first (n - length v) d m') r.next ds),
      sym e,
    )

-- ---- points

-- the notes behind a point
abbrev with_xy : Notes → Number → ℕ → Bool → ℕ → Notes
with_xy m x a g k = record m { x = x; number_at = a; negative = g; magnitude = k }

-- the machine gets from one place to the other, with notes of which P holds
abbrev Goes : ℕ → Place → Notes → List ℕ → Place → List ℕ → (Notes → Type 0) → Type 0
Goes n p m t q u P = (m' : Notes) × (run n (st p m) t ≡ run n (st q m') u) × P m'

point_is : (ps : List Point) (x y : Number) (p : Point) → x ≡ p.x → y ≡ p.y → ps ++ record { x = x; y = y } ∷ [] ≡ ps ++ p ∷ []
point_is ps x y p e f = ap (λ (z : Number). ps ++ record { x = z; y = y } ∷ []) e ∙ ap (λ (z : Number). ps ++ record { x = p.x; y = z } ∷ []) f

point : (n : ℕ) (m : Notes) (t u : List ℕ) (p : Point) → IsPoint n t p u
    → Goes n BeforePoint m t DigitsY u (λ m'. (m'.multi ≡ m.multi) × (m'.rings ≡ m.rings) × (m'.ring_at ≡ m.ring_at) × (with_point m' ≡ m.points ++ p ∷ []) × (m'.starts ≡ m.starts))
point n m t u p (v, w, first, g, second) =
    let a = number_goes n BeforePoint MinusX DigitsX m t v p.x reads_x first in
    let m1 = with_number m a.0 a.1 a.2 in
    let m2 = record m1 { x = number m1 } in
    let b = number_goes n BeforeY MinusY DigitsY m2 w u p.y reads_y second in
    let m3 = with_number m2 b.0 b.1 b.2 in
    let is : with_point m3 ≡ m.points ++ p ∷ [] = point_is m.points (number m1) (number m3) p a.4 b.4 in
    (m3, a.3 ∙ gap n DigitsX BeforeY m1 m2 v w (λ at. refl) (λ at. refl) g ∙ b.3, (refl, refl, refl, is, refl))

-- behind a point's last digit
abbrev settled : Notes → Notes
settled m = record m { points = with_point m }

settle_close : (n : ℕ) (m : Notes) (t u : List ℕ) → Spaces t (41 ∷ u) → run n (st DigitsY m) t ≡ run n (st AfterPoint (settled m)) (41 ∷ u)
settle_close n m t u ([], h, e) = ap (run n (st DigitsY m)) e
settle_close n m t u (b ∷ s, h, e) = ap (run n (st DigitsY m)) e ∙ one_space n b (s ++ 41 ∷ u) DigitsY AfterPoint m (settled m) (λ at. refl) h.0 ∙ spaces_go n AfterPoint (settled m) s (41 ∷ u) (λ at. refl) h.1

settle_comma : (n : ℕ) (m : Notes) (t u : List ℕ) → Spaces t (44 ∷ u) → run n (st DigitsY m) t ≡ run n (st BeforePoint (settled m)) u
settle_comma n m t u ([], h, e) = ap (run n (st DigitsY m)) e
settle_comma n m t u (b ∷ s, h, e) = ap (run n (st DigitsY m)) e ∙ one_space n b (s ++ 44 ∷ u) DigitsY AfterPoint m (settled m) (λ at. refl) h.0 ∙ spaces_go n AfterPoint (settled m) s (44 ∷ u) (λ at. refl) h.1

points : (n : ℕ) (m : Notes) (t rest : List ℕ) (ps : List Point) → More (IsPoint n) t ps rest
    → Goes n DigitsY m t AfterRing rest (λ m'. (m'.multi ≡ m.multi) × (m'.rings ≡ with_ring m (with_point m ++ ps)) × (m'.starts ≡ m.starts))
points n m t rest [] s = (record m { points = []; rings = with_ring m (with_point m) }, settle_close n m t rest s, (refl, ap (with_ring m) (sym (append-nil (with_point m))), refl))
points n m t rest (p ∷ ps) (u, v, w, s, s', item, more) =
    let a = point n (settled m) v w p item in
    let b = points n a.0 w rest ps more in
    let e : with_ring a.0 (with_point a.0 ++ ps) ≡ with_ring m (with_point m ++ p ∷ ps) =
    rw (a.2.1, a.2.2, a.2.3) (ap (with_ring m) (append_assoc (with_point m) (p ∷ []) ps)) in
    (b.0, settle_comma n m t u s ∙ spaces n BeforePoint (settled m) u v (λ at. refl) s' ∙ a.1 ∙ b.1, (b.2.0 ∙ a.2.0, b.2.1 ∙ e, b.2.2 ∙ a.2.4))

-- ---- rings

-- behind the `(` of a ring, which stands at this offset
ring : (n : ℕ) (m : Notes) (t rest : List ℕ) (r : Ring) → IsRing n t r rest
    → Goes n BeforeRing m t AfterRing rest (λ m'. (m'.multi ≡ m.multi) × (m'.rings ≡ m.rings ++ r ∷ []) × (m'.starts ≡ m.starts))
ring n m t rest r ((u, v, w, first, others, e, s, item, more, is), at) =
    let m0 = record m { ring_at = n - length (40 ∷ u); points = [] } in
    let a = point n m0 v w first item in
    let b = points n a.0 w rest others more in
    let here : n - length (40 ∷ u) ≡ r.at = sym (at ∙ ap (λ (x : List ℕ). n - length x) e) in
    let r-is : (let x : Ring = record { at = n - length (40 ∷ u); points = first ∷ others } in x) ≡ r = rw (here, ← is) refl in
    let f : with_ring a.0 (with_point a.0 ++ others) ≡ m.rings ++ r ∷ [] = rw (a.2.1, a.2.2, a.2.3) (ap (λ (x : Ring). m.rings ++ x ∷ []) r-is) in
    (b.0, ap (run n (st BeforeRing m)) e ∙ spaces n BeforePoint m0 u v (λ at. refl) s ∙ a.1 ∙ b.1, (b.2.0 ∙ a.2.0, b.2.1 ∙ f, b.2.2 ∙ a.2.4))

rings : (n : ℕ) (m : Notes) (t rest : List ℕ) (rs : List Ring) → More (IsRing n) t rs rest
    → Goes n AfterRing m t (closed m.multi) rest (λ m'. (m'.multi ≡ m.multi) × (m'.rings ≡ m.rings ++ rs) × (m'.starts ≡ m.starts))
rings n m t rest [] s = (m, spaces n AfterRing m t (41 ∷ rest) (λ at. refl) s, (refl, sym (append-nil m.rings), refl))
rings n m t rest (r ∷ rs) (u, v, w, s, s', item, more) =
    let a = ring n m v w r item in
    let b = rings n a.0 w rest rs more in
    let e : a.0.rings ++ rs ≡ m.rings ++ (r ∷ rs) = rw a.2.1 (append_assoc m.rings (r ∷ []) rs) in
    let go : run n (st AfterRing m) t ≡ run n (st (closed a.0.multi) b.0) rest = spaces n AfterRing m t (44 ∷ u) (λ at. refl) s ∙ spaces n BeforeRing m u v (λ at. refl) s' ∙ a.1 ∙ b.1 in
    (b.0, subst (λ (x : Bool). run n (st AfterRing m) t ≡ run n (st (closed x) b.0) rest) a.2.0 go, (b.2.0 ∙ a.2.0, b.2.1 ∙ e, b.2.2 ∙ a.2.2))

-- the rings of a body, from a place before its `(`
body : (n : ℕ) (p : Place) (m : Notes) (t rest : List ℕ) (rs : List Ring) → ((at : ℕ) → step at (st p m) Open ≡ Some (st BeforeRing m)) → IsBody n t rs rest
    → Goes n p m t (closed m.multi) rest (λ m'. (m'.multi ≡ m.multi) × (m'.rings ≡ m.rings ++ rs) × (m'.starts ≡ m.starts))
body n p m t rest rs f (u, v, w, first, others, e, s, item, more, is) =
    let a = ring n m v w first item in
    let b = rings n a.0 w rest others more in
    let opening : run n (st p m) (40 ∷ u) ≡ run n (st BeforeRing m) u = ap (λ (o : Option State). option_and_then (λ x. run n x u) o) (f (n - length (40 ∷ u))) in
    let go : run n (st p m) t ≡ run n (st (closed a.0.multi) b.0) rest = ap (run n (st p m)) e ∙ opening ∙ spaces n BeforeRing m u v (λ at. refl) s ∙ a.1 ∙ b.1 in
    let is' : a.0.rings ++ others ≡ m.rings ++ rs = rw (a.2.1, is) (append_assoc m.rings (first ∷ []) others) in
    (b.0, subst (λ (x : Bool). run n (st p m) t ≡ run n (st (closed x) b.0) rest) a.2.0 go, (b.2.0 ∙ a.2.0, b.2.1 ∙ is', b.2.2 ∙ a.2.2))

-- ---- several bodies

bodies : (n : ℕ) (m : Notes) (t rest : List ℕ) (rss : List (List Ring)) → m.multi ≡ true → More (IsBody n) t rss rest
    → Goes n AfterBody m t Ended rest (λ m'. (m'.rings ≡ m.rings ++ joined rss) × (m'.starts ≡ m.starts))
bodies n m t rest [] multi s = (m, spaces n AfterBody m t (41 ∷ rest) (λ at. refl) s, (sym (append-nil m.rings), refl))
bodies n m t rest (rs ∷ rss) multi (u, v, w, s, s', item, more) =
    let a = body n BeforeBody m v w rs (λ at. refl) item in
    let multi' : a.0.multi ≡ true = a.2.0 ∙ multi in
    let b = bodies n a.0 w rest rss multi' more in
    let a1 : run n (st BeforeBody m) v ≡ run n (st AfterBody a.0) w = subst (λ (x : Bool). run n (st BeforeBody m) v ≡ run n (st (closed x) a.0) w) multi a.1 in
    let e : a.0.rings ++ joined rss ≡ m.rings ++ (rs ++ joined rss) = rw a.2.1 (append_assoc m.rings rs (joined rss)) in
    (b.0, spaces n AfterBody m t (44 ∷ u) (λ at. refl) s ∙ spaces n BeforeBody m u v (λ at. refl) s' ∙ a1 ∙ b.1, (b.2.0 ∙ e, b.2.1 ∙ a.2.2))

-- ---- geometries

multi_goes : (n : ℕ) (m : Notes) (t rest : List ℕ) (rs : List Ring) → m.multi ≡ true → IsMulti n t rs rest → Goes n KeywordGap m t Ended rest (λ m'. (m'.rings ≡ m.rings ++ rs) × (m'.starts ≡ m.starts))
multi_goes n m t rest rs multi (u, rss, s, (v, w, x, first, others, e, s', item, more, is), is') =
    let opening : run n (st KeywordGap m) (40 ∷ v) ≡ run n (st BeforeBody m) v = ap (λ (q : Bool). run n (st (opened q) m) v) multi in
    let a = body n BeforeBody m w x first (λ at. refl) item in
    let a1 : run n (st BeforeBody m) w ≡ run n (st AfterBody a.0) x = subst (λ (q : Bool). run n (st BeforeBody m) w ≡ run n (st (closed q) a.0) x) multi a.1 in
    let b = bodies n a.0 x rest others (a.2.0 ∙ multi) more in
    let j : a.0.rings ++ joined others ≡ m.rings ++ rs = rw (a.2.1, is', is) (append_assoc m.rings first (joined others)) in
    (b.0, spaces n KeywordGap m t u (λ at. refl) s ∙ ap (run n (st KeywordGap m)) e ∙ opening ∙ spaces n BeforeBody m v w (λ at. refl) s' ∙ a1 ∙ b.1, (b.2.0 ∙ j, b.2.1 ∙ a.2.2))

single_goes : (n : ℕ) (m : Notes) (t rest : List ℕ) (rs : List Ring) → m.multi ≡ false → IsSingle n t rs rest → Goes n KeywordGap m t Ended rest (λ m'. (m'.rings ≡ m.rings ++ rs) × (m'.starts ≡ m.starts))
single_goes n m t rest rs multi (u, s, b) =
    let a = body n KeywordGap m u rest rs (λ at. ap (λ (q : Bool). Some (st (opened q) m)) multi) b in
    let a1 : run n (st KeywordGap m) u ≡ run n (st Ended a.0) rest = subst (λ (q : Bool). run n (st KeywordGap m) u ≡ run n (st (closed q) a.0) rest) multi a.1 in
    (a.0, spaces n KeywordGap m t u (λ at. refl) s ∙ a1, (a.2.1, a.2.2))

-- right behind a keyword the machine goes as behind the white space
behind_word : (n : ℕ) (m : Notes) (t v : List ℕ) → Spaces t (40 ∷ v) → run n (st (Keyword 12) m) t ≡ run n (st KeywordGap m) t
behind_word n m t v ([], h, e) = ap (run n (st (Keyword 12) m)) e ∙ sym (ap (run n (st KeywordGap m)) e)
behind_word n m t v (b ∷ s, h, e) =
    ap (run n (st (Keyword 12) m)) e ∙ one_space n b (s ++ 40 ∷ v) (Keyword 12) KeywordGap m m (λ at. refl) h.0
    ∙ sym (ap (run n (st KeywordGap m)) e ∙ one_space n b (s ++ 40 ∷ v) KeywordGap KeywordGap m m (λ at. refl) h.0)

empty_goes : (n : ℕ) (m : Notes) (t rest : List ℕ) (rs : List Ring) → IsEmpty t rs rest → Goes n (Keyword 12) m t Ended rest (λ m'. (m'.rings ≡ m.rings ++ rs) × (m'.starts ≡ m.starts))
empty_goes n m t rest rs (u, g, w, is) =
    (m, gap n (Keyword 12) KeywordGap m m t u (λ at. refl) (λ at. refl) g ∙ empty n m u rest w, (sym (append-nil m.rings) ∙ ap (λ (x : List Ring). m.rings ++ x) (sym is), refl))

listed_open : {A : Type 0} (Item : List ℕ → A → List ℕ → Type 0) (t u rest : List ℕ) (xs : List A) → Spaces t u → Listed Item u xs rest → (v : List ℕ) × Spaces t (40 ∷ v)
listed_open Item t u rest xs s (v, w, x, first, others, e, s', item, more, is) = (v, subst (λ (y : List ℕ). Spaces t y) e s)

geometry : (n : ℕ) (m : Notes) (t rest : List ℕ) (rs : List Ring) → IsGeometry n t rs rest → Goes n Between m t Ended rest (λ m'. (m'.rings ≡ m.rings ++ rs) × (m'.starts ≡ m.starts ++ length m.rings ∷ []))
geometry n m t rest rs (u, inl (w, more)) =
    let m' = with_geometry false m in
    let a = letters n 80 (79 ∷ 76 ∷ 89 ∷ 71 ∷ 79 ∷ 78 ∷ []) Between (Keyword 6) m m' t u refl (λ at. refl) w in
    let b = a.1 ∙ word n 6 m' (79 ∷ 76 ∷ 89 ∷ 71 ∷ 79 ∷ 78 ∷ []) a.0 u (refl, refl, (refl, refl, (refl, refl, (refl, refl, (refl, refl, (refl, refl, refl)))))) a.2 in
    elim more [
      | inl single ↦
          let s = listed_open (IsRing n) u single.0 rest rs single.1 single.2 in
          let c = single_goes n m' u rest rs refl single in
          (c.0, b ∙ behind_word n m' u s.0 s.1 ∙ c.1, c.2)
      | inr none ↦ let c = empty_goes n m' u rest rs none in (c.0, b ∙ c.1, c.2)
    ]
geometry n m t rest rs (u, inr (w, more)) =
    let m' = with_geometry true m in
    let a = letters n 77 (85 ∷ 76 ∷ 84 ∷ 73 ∷ polygon_word) Between (Keyword 1) m m' t u refl (λ at. refl) w in
    let b = a.1 ∙ word n 1 m' (85 ∷ 76 ∷ 84 ∷ 73 ∷ polygon_word) a.0 u (refl, refl, (refl, refl, (refl, refl, (refl, refl, (refl, refl, (refl, refl, (refl, refl, (refl, refl, (refl, refl, (refl, refl, (refl, refl, refl))))))))))) a.2 in
    elim more [
      | inl multi ↦
          let s = listed_open (IsBody n) u multi.0 rest multi.1 multi.2 multi.3 in
          let c = multi_goes n m' u rest rs refl multi in
          (c.0, b ∙ behind_word n m' u s.0 s.1 ∙ c.1, c.2)
      | inr none ↦ let c = empty_goes n m' u rest rs none in (c.0, b ∙ c.1, c.2)
    ]

-- the machine ends well, with these rings, and these starts of geometries
abbrev pub Ends : Option State → List Ring → List ℕ → Type 0
Ends o rs starts = (s : State) × (o ≡ Some s) × (may_end s.place ≡ true) × (s.notes.rings ≡ rs) × (s.notes.starts ≡ starts)

ends_from : (o r : Option State) (rs rs' : List Ring) (starts starts' : List ℕ) → o ≡ r → rs ≡ rs' → starts ≡ starts' → Ends r rs starts → Ends o rs' starts'
ends_from o r rs rs' starts starts' e f g (s, is, end, done, begun) = (s, e ∙ is, end, done ∙ f, begun ∙ g)

-- the starts behind one more geometry
starts_behind : (starts before : List ℕ) (done rs all : List Ring) (rss : List (List Ring)) → before ≡ starts ++ length done ∷ [] → all ≡ done ++ rs
    → before ++ starts_from (length all) rss ≡ starts ++ starts_from (length done) (rs ∷ rss)
starts_behind starts before done rs all rss e f =
    ap (λ x. x ++ starts_from (length all) rss) e
    ∙ append_assoc starts (length done ∷ []) (starts_from (length all) rss)
    ∙ ap (λ k. starts ++ length done ∷ starts_from k rss) (ap length f ∙ length-append done rs)

geometries : (n : ℕ) (m : Notes) (t : List ℕ) (rss : List (List Ring)) → Geometries n t rss → Ends (run n (st Ended m) t) (m.rings ++ joined rss) (m.starts ++ starts_from (length m.rings) rss)
geometries n m t [] ([], h, e) = (st Ended m, ap (run n (st Ended m)) e, refl, sym (append-nil m.rings), sym (append-nil m.starts))
geometries n m t [] (b ∷ s, h, e) =
    (st Between m, ap (run n (st Ended m)) e ∙ one_space n b (s ++ []) Ended Between m m (λ at. refl) h.0 ∙ spaces_go n Between m s [] (λ at. refl) h.1, refl, sym (append-nil m.rings), sym (append-nil m.starts))
geometries n m t (rs ∷ rss) (u, v, g, item, more) =
    let a = geometry n m u v rs item in
    let b = geometries n a.0 v rss more in
    ends_from (run n (st Ended m) t) (run n (st Ended a.0) v) (a.0.rings ++ joined rss) (m.rings ++ joined (rs ∷ rss)) (a.0.starts ++ starts_from (length a.0.rings) rss) (m.starts ++ starts_from (length m.rings) (rs ∷ rss))
    (gap n Ended Between m m t u (λ at. refl) (λ at. refl) g ∙ a.1)
    (rw a.2.0 (append_assoc m.rings rs (joined rss)))
    (starts_behind m.starts a.0.starts m.rings rs a.0.rings rss a.2.1 a.2.0) b

features : (n : ℕ) (m : Notes) (t : List ℕ) (fs : List (List Ring)) → IsFeaturesAt n t fs → Ends (run n (st Between m) t) (m.rings ++ joined fs) (m.starts ++ starts_from (length m.rings) fs)
features n m t fs (inl (s, none)) = (
  st Between m,
  spaces n Between m t [] (λ at. refl) s,
  refl,
  sym (append-nil m.rings) ∙ ap (λ x. m.rings ++ joined x) (sym none),
  sym (append-nil m.starts) ∙ ap (λ x. m.starts ++ starts_from (length m.rings) x) (sym none),
)
features n m t fs (inr (u, v, first, others, s, item, more, is)) =
    let a = geometry n m u v first item in
    let b = geometries n a.0 v others more in
    ends_from (run n (st Between m) t) (run n (st Ended a.0) v) (a.0.rings ++ joined others) (m.rings ++ joined fs) (a.0.starts ++ starts_from (length a.0.rings) others) (m.starts ++ starts_from (length m.rings) fs)
    (spaces n Between m t u (λ at. refl) s ∙ a.1)
    (rw (a.2.0, is) (append_assoc m.rings first (joined others)))
    (starts_behind m.starts a.0.starts m.rings first a.0.rings others a.2.1 a.2.0 ∙ ap (λ x. m.starts ++ starts_from (length m.rings) x) (sym is)) b

-- the geometries of a layer are its features
pub of_layer : (n : ℕ) (t : List ℕ) (rs : List Ring) → IsLayerAt n t rs → (fs : List (List Ring)) × IsFeaturesAt n t fs × (rs ≡ joined fs)
of_layer n t rs (inl (s, none)) = ([], inl (s, refl), none)
of_layer n t rs (inr (u, v, first, others, s, item, more, is)) = (first ∷ others, inr (u, v, first, others, s, item, more, refl), is)

-- the machine takes the text of these features to an end, and has their rings and their starts there
pub taken_features : (text : List ℕ) (fs : List (List Ring)) → HasFeatures text fs → Ends (run (length text) start text) (joined fs) (starts_from 0 fs)
unfolding HasFeatures
taken_features text fs h = features (length text) start.notes text fs h

-- the machine ends well, with these rings
abbrev pub Takes : Option State → List Ring → Type 0
Takes o rs = (s : State) × (o ≡ Some s) × (may_end s.place ≡ true) × (s.notes.rings ≡ rs)

-- the machine takes every layer to an end, and has its rings there
pub taken : (text : List ℕ) (rs : List Ring) → IsLayer text rs → Takes (run (length text) start text) rs
unfolding IsLayer
taken text rs h =
    let f = of_layer (length text) text rs h in
    let e = features (length text) start.notes text f.0 f.1 in
    (e.0, e.1, e.2, e.3 ∙ sym f.2)

-- a text stands for at most one list of rings
pub at_most_one : (text : List ℕ) (a b : List Ring) → IsLayer text a → IsLayer text b → a ≡ b
at_most_one text a b h g =
    let p = taken text a h in
    let q = taken text b g in
    let e : p.0 ≡ q.0 = same_Some p.0 q.0 (sym p.1 ∙ q.1) in
    sym p.3 ∙ ap (λ (s : State). s.notes.rings) e ∙ q.3
