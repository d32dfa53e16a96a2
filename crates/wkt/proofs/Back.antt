-- A step of the machine leads from what may come before it to what may come behind it.
use Rattle.std.proofs.Common.{◌≡◌, ℕ, suc, ◌+◌, ◌-◌, ◌*◌, ◌<◌, ◌≤◌, Bool, true, false, cond, eqb, ltb, ◌⊎◌, inl, inr, List, [], ◌∷◌, ◌++◌, length, get_or, drop, Option, Some, None, refl, sym, ap, subst, ◌∙◌, append_assoc}
use Rattle.std.specs.Prelude.{IfSome, IsTrue, ◌&&◌, slice_index}
use Rattle.std.proofs.lemmas.Bool.{eqb-true}
use borrow.Author.Tests.{ltb-true}
use Rattle.std.proofs.Math.Numerals.{add-one}
use Rattle.std.proofs.Math.Seq.{drop-cons}
use Rattle.std.proofs.lemmas.List.{append-nil}
use Rattle.wkt.specs.declared.places.Place.{Place}
use Rattle.wkt.specs.declared.places.Place.TheVariants.{Between, Keyword, KeywordGap, Empty, Ended, BeforeBody, BeforeRing, BeforePoint, MinusX, DigitsX, BeforeY, MinusY, DigitsY, AfterPoint, AfterRing, AfterBody}
use Rattle.wkt.specs.declared.places.Class.{Class}
use Rattle.wkt.specs.declared.places.Class.TheVariants.{Space, Digit, Minus, Comma, Open, Close, Letter}
use Rattle.wkt.specs.LayerText.{Number, Point, Ring, is_space, is_digit, Spaces, Gap, Word, value_after, IsNumber, IsPoint, More, IsRing, IsBody, joined, polygon_word, multipolygon_word, empty_word, IsEmpty, IsGeometry, IsLayerAt}
use Rattle.wkt.specs.Machine.{opened, closed, turn, Notes, number, with_point, with_ring, with_geometry, noted}
use Rattle.wkt.proofs.Rests.{RestLayer, RestBodies, RestBody, RestRings, RestPoints, RestDigits, AllOfDigits, IsInner, RestInner, Rest}
use Rattle.wkt.proofs.Bytes.{IsKind}

pub no_space : (t : List ℕ) → Spaces t t
no_space t = ([], tt, refl)

pub space_more : {b : ℕ} {t u : List ℕ} → IsTrue (is_space b) → Spaces t u → Spaces (b ∷ t) u
space_more {b} h (s, all, e) = (b ∷ s, (h, all), ap (λ (x : List ℕ). b ∷ x) e)

gap_of : {b : ℕ} {t u : List ℕ} → IsTrue (is_space b) → Spaces t u → Gap (b ∷ t) u
gap_of {b} {t} h s = (b, t, h, refl, s)

pub if_cond : {A : Type 0} (x : Bool) (o r : Option A) (P : A → Type 0) → (x ≡ true → IfSome o P) → (x ≡ false → IfSome r P) → IfSome (cond x o r) P
if_cond true o r P f g = f refl
if_cond false o r P f g = g refl

pub if_one : {A : Type 0} (x : Bool) (a : A) (P : A → Type 0) → (x ≡ true → P a) → IfSome (cond x (Some a) None) P
if_one true a P f = f refl
if_one false a P f = tt

pub eqb_cases : (a b : ℕ) → (eqb a b ≡ true) ⊎ (eqb a b ≡ false)
eqb_cases a b = elim (eqb a b) as (λ x. (x ≡ true) ⊎ (x ≡ false)) [ true ↦ inl refl | false ↦ inr refl ]

pub both : (x y : Bool) → (x && y) ≡ true → (x ≡ true) × (y ≡ true)
both true y e = (refl, e)
both false y e = absurd cc

-- ---- what the machine keeps of itself

pub more_space : {A : Type 0} (Item : List ℕ → A → List ℕ → Type 0) (b : ℕ) (t : List ℕ) (xs : List A) (w : List ℕ) → IsTrue (is_space b) → More Item t xs w → More Item (b ∷ t) xs w
more_space Item b t [] w h s = space_more h s
more_space Item b t (x ∷ xs) w h (u, v, y, s, s', item, more) = (u, v, y, space_more h s, s', item, more)

inner_space : (n : ℕ) (multi : Bool) (b : ℕ) (t : List ℕ) (rs : List Ring) (w : List ℕ) → IsTrue (is_space b) → IsInner multi n t rs w → IsInner multi n (b ∷ t) rs w
inner_space n true b t rs w h (u, rss, s, bodies, is) = (u, rss, space_more h s, bodies, is)
inner_space n false b t rs w h (u, s, body) = (u, space_more h s, body)

-- ---- between geometries

between_space : (n b : ℕ) (done : List Ring) (t : List ℕ) (v : List Ring) → IsTrue (is_space b) → (rs : List Ring) × IsLayerAt n t rs × (v ≡ done ++ rs) → (rs : List Ring) × IsLayerAt n (b ∷ t) rs × (v ≡ done ++ rs)
between_space n b done t v h (rs, inl (s, none), e) = (rs, inl (space_more h s, none), e)
between_space n b done t v h (rs, inr (u, w, first, others, s, geometry, more, is), e) = (rs, inr (u, w, first, others, space_more h s, geometry, more, is), e)

ended_space : (n b : ℕ) (done : List Ring) (t : List ℕ) (v : List Ring) → IsTrue (is_space b) → (rs : List Ring) × IsLayerAt n t rs × (v ≡ done ++ rs) → RestLayer n done (b ∷ t) v
ended_space n b done t v h (rs, inl (s, none), e) = ([], space_more h s, e ∙ ap (λ (x : List Ring). done ++ x) none)
ended_space n b done t v h (rs, inr (u, w, first, others, s, geometry, more, is), e) = (first ∷ others, (u, w, gap_of h s, geometry, more), e ∙ ap (λ (x : List Ring). done ++ x) is)

-- ---- keywords

abbrev word_of : Bool → List ℕ
word_of true = multipolygon_word
word_of false = polygon_word

abbrev BehindWord : ℕ → Notes → List ℕ → List Ring → Type 0
BehindWord n m u v = RestInner n m u v ⊎ ((w x : List ℕ) × Gap u w × Word empty_word w x × RestLayer n m.rings x v)

layer_from : (n : ℕ) (done : List Ring) (t w : List ℕ) (rs v : List Ring) → IsGeometry n t rs w → RestLayer n (done ++ rs) w v → (rs : List Ring) × IsLayerAt n t rs × (v ≡ done ++ rs)
layer_from n done t w rs v g (gs, geometries, e) = (rs ++ joined gs, inr (t, w, rs, gs, no_space t, g, geometries, refl), e ∙ append_assoc done rs (joined gs))

geometry_of : (n : ℕ) (multi : Bool) (t u w : List ℕ) (rs : List Ring) → Word (word_of multi) t u → IsInner multi n u rs w ⊎ IsEmpty u rs w → IsGeometry n t rs w
geometry_of n true t u w rs word more = (u, inr (word, more))
geometry_of n false t u w rs word more = (u, inl (word, more))

begins : (n : ℕ) (multi : Bool) (m : Notes) (t u : List ℕ) (v : List Ring) → Word (word_of multi) t u → BehindWord n (record m { multi = multi }) u v → (rs : List Ring) × IsLayerAt n t rs × (v ≡ m.rings ++ rs)
begins n multi m t u v word (inl (rs, w, inner, rest)) = layer_from n m.rings t w rs v (geometry_of n multi t u w rs word (inl inner)) rest
begins n multi m t u v word (inr (w, x, gap, empty, rest)) =
    layer_from n m.rings t x [] v (geometry_of n multi t u x [] word (inr (w, gap, empty, refl))) (subst (λ (d : List Ring). RestLayer n d x v) (sym (append-nil m.rings)) rest)

letter_at : (b c d : ℕ) → (b ≡ c) ⊎ (b ≡ c + 32) → eqb c d ≡ true → (b ≡ d) ⊎ (b ≡ d + 32)
letter_at b c d h e = rw (eqb-true c d e) at h

first_letter : (n b c : ℕ) (m : Notes) (t : List ℕ) (v : List Ring) → (b ≡ c) ⊎ (b ≡ c + 32)
    → IfSome (cond (eqb c 77) (Some (Keyword 1)) (cond (eqb c 80) (Some (Keyword 6)) None)) (λ p. Rest n p (with_geometry (eqb c 77) m) t v → Rest n Between m (b ∷ t) v)
first_letter n b c m t v h =
    if_cond (eqb c 77) _ _ (λ p. Rest n p (with_geometry (eqb c 77) m) t v → Rest n Between m (b ∷ t) v)
    (λ e r. let k : Rest n (Keyword 1) (with_geometry true m) t v = subst (λ (x : Bool). Rest n (Keyword 1) (with_geometry x m) t v) e r in
    begins n true m (b ∷ t) k.0 v (b, t, refl, letter_at b c 77 h e, k.1) k.2)
    (λ e. if_one (eqb c 80) _ (λ p. Rest n p (with_geometry (eqb c 77) m) t v → Rest n Between m (b ∷ t) v)
    (λ f r. let k : Rest n (Keyword 6) (with_geometry false m) t v = subst (λ (x : Bool). Rest n (Keyword 6) (with_geometry x m) t v) e r in
    begins n false m (b ∷ t) k.0 v (b, t, refl, letter_at b c 80 h f, k.1) k.2))

word_more : (word : List ℕ) (k b c : ℕ) (t u : List ℕ) → k < length word → (b ≡ c) ⊎ (b ≡ c + 32) → eqb c (slice_index word k) ≡ true → Word (drop (k + 1) word) t u → Word (drop k word) (b ∷ t) u
word_more word k b c t u lt h e w =
    let w' : Word (drop (suc k) word) t u = rw add-one at w in
    rw (drop-cons word k 0 lt) (b, t, refl, letter_at b c (get_or word k 0) h e, w')

next_letter : (n k b c : ℕ) (m : Notes) (t : List ℕ) (v : List Ring) → (b ≡ c) ⊎ (b ≡ c + 32)
    → IfSome (cond (ltb k 12 && eqb c (slice_index multipolygon_word k)) (Some (Keyword (k + 1))) None) (λ p. Rest n p m t v → Rest n (Keyword k) m (b ∷ t) v)
next_letter n k b c m t v h =
    if_one (ltb k 12 && eqb c (slice_index multipolygon_word k)) _ (λ p. Rest n p m t v → Rest n (Keyword k) m (b ∷ t) v)
    (λ e r. let p = both (ltb k 12) (eqb c (slice_index multipolygon_word k)) e in
    (r.0, word_more multipolygon_word k b c t r.0 (ltb-true k 12 p.0) h p.1 r.1, r.2))

word_space : (n b : ℕ) (m : Notes) (t : List ℕ) (v : List Ring) → IsTrue (is_space b) → Rest n KeywordGap m t v → Rest n (Keyword 12) m (b ∷ t) v
word_space n b m t v h (inl (rs, w, inner, rest)) = (b ∷ t, refl, inl (rs, w, inner_space n m.multi b t rs w h inner, rest))
word_space n b m t v h (inr (w, x, s, word, rest)) = (b ∷ t, refl, inr (w, x, gap_of h s, word, rest))

at_twelve : (n k : ℕ) (p : Place) (m : Notes) (t u : List ℕ) (v : List Ring) → (Rest n p m t v → Rest n (Keyword 12) m u v)
    → IfSome (cond (eqb k 12) (Some p) None) (λ p. Rest n p m t v → Rest n (Keyword k) m u v)
at_twelve n k p m t u v f =
    if_one (eqb k 12) p (λ p. Rest n p m t v → Rest n (Keyword k) m u v)
    (λ e r. subst (λ (x : ℕ). Rest n (Keyword x) m u v) (sym (eqb-true k 12 e)) (f r))

gap_space : (n b : ℕ) (m : Notes) (t : List ℕ) (v : List Ring) → IsTrue (is_space b) → Rest n KeywordGap m t v → Rest n KeywordGap m (b ∷ t) v
gap_space n b m t v h (inl (rs, w, inner, rest)) = inl (rs, w, inner_space n m.multi b t rs w h inner, rest)
gap_space n b m t v h (inr (w, x, s, word, rest)) = inr (w, x, space_more h s, word, rest)

-- rings or bodies behind their list's `(`
opens : (n : ℕ) (multi : Bool) (m : Notes) (t : List ℕ) (v : List Ring) → Rest n (opened multi) (record m { multi = multi }) t v → RestInner n (record m { multi = multi }) (40 ∷ t) v
opens n true m t v (u, w, rs, s, body, (bodies, x, more, rest)) = (
  rs ++ joined bodies,
  x,
  (40 ∷ t, rs ∷ bodies, no_space (40 ∷ t), (t, u, w, rs, bodies, refl, s, body, more, refl), refl),
  subst (λ (d : List Ring). RestLayer n d x v) (append_assoc m.rings rs (joined bodies)) rest,
)
opens n false m t v (u, w, r, s, ring, (rs, x, more, rest)) = (
  r ∷ rs,
  x,
  (40 ∷ t, no_space (40 ∷ t), (t, u, w, r, rs, refl, s, ring, more, refl)),
  subst (λ (d : List Ring). RestLayer n d x v) (append_assoc m.rings (r ∷ []) rs) rest,
)

empty_first : (n b c : ℕ) (m : Notes) (t : List ℕ) (v : List Ring) → (b ≡ c) ⊎ (b ≡ c + 32)
    → IfSome (cond (eqb c 69) (Some (Empty 1)) None) (λ p. Rest n p m t v → Rest n KeywordGap m (b ∷ t) v)
empty_first n b c m t v h =
    if_one (eqb c 69) (Empty 1) (λ p. Rest n p m t v → Rest n KeywordGap m (b ∷ t) v)
    (λ e r. inr (b ∷ t, r.0, no_space (b ∷ t), (b, t, refl, letter_at b c 69 h e, r.1), r.2))

empty_rest : (n k : ℕ) (m : Notes) (t : List ℕ) (v : List Ring) → Rest n (cond (eqb k 4) Ended (Empty (k + 1))) m t v → (x : List ℕ) × Word (drop (k + 1) empty_word) t x × RestLayer n m.rings x v
empty_rest n k m t v r =
    elim (eqb_cases k 4) [
      | inl e ↦ (t, subst (λ (j : ℕ). Word (drop (j + 1) empty_word) t t) (sym (eqb-true k 4 e)) refl, subst (λ (q : Bool). Rest n (cond q Ended (Empty (k + 1))) m t v) e r)
      | inr e ↦ subst (λ (q : Bool). Rest n (cond q Ended (Empty (k + 1))) m t v) e r
    ]

empty_next : (n k b c : ℕ) (m : Notes) (t : List ℕ) (v : List Ring) → (b ≡ c) ⊎ (b ≡ c + 32)
    → IfSome (cond (ltb k 5 && eqb c (slice_index empty_word k)) (Some (cond (eqb k 4) Ended (Empty (k + 1)))) None) (λ p. Rest n p m t v → Rest n (Empty k) m (b ∷ t) v)
empty_next n k b c m t v h =
    if_one (ltb k 5 && eqb c (slice_index empty_word k)) _ (λ p. Rest n p m t v → Rest n (Empty k) m (b ∷ t) v)
    (λ e r. let p = both (ltb k 5) (eqb c (slice_index empty_word k)) e in
    let q = empty_rest n k m t v r in
    (q.0, word_more empty_word k b c t q.0 (ltb-true k 5 p.0) h p.1 q.1, q.2))

-- ---- lists

body_open : (n : ℕ) (multi : Bool) (m : Notes) (t : List ℕ) (v : List Ring) → multi ≡ true → ((u w : List ℕ) × (r : Ring) × Spaces t u × IsRing n u r w × RestRings n multi (m.rings ++ r ∷ []) w v) → Rest n BeforeBody m (40 ∷ t) v
body_open n false m t v e r = absurd cc
body_open n true m t v e (u, w, r, s, ring, (rs, x, more, rest)) =
    (40 ∷ t, x, r ∷ rs, no_space (40 ∷ t), (t, u, w, r, rs, refl, s, ring, more, refl), subst (λ (d : List Ring). RestBodies n d x v) (append_assoc m.rings (r ∷ []) rs) rest)

ring_open : (n : ℕ) (m : Notes) (t : List ℕ) (v : List Ring) → Rest n BeforePoint (record m { ring_at = n - length (40 ∷ t); points = [] }) t v → Rest n BeforeRing m (40 ∷ t) v
ring_open n m t v (u, w, x, s, number, (g, gap, (y, a, second, (ps, z, more, rest)))) = (
  40 ∷ t,
  z,
  record { at = n - length (40 ∷ t); points = record { x = x; y = y } ∷ ps },
  no_space (40 ∷ t),
  ((t, u, a, record { x = x; y = y }, ps, refl, s, (w, g, number, gap, second), more, refl), refl),
  rest,
)

comma_point : (n : ℕ) (m : Notes) (points : List Point) (t : List ℕ) (v : List Ring) → Rest n BeforePoint (record m { points = points }) t v → RestPoints n m points (44 ∷ t) v
comma_point n m points t v (u, w, x, s, number, (g, gap, (y, a, second, (ps, z, more, rest)))) = (
  record { x = x; y = y } ∷ ps,
  z,
  (t, u, a, no_space (44 ∷ t), s, (w, g, number, gap, second), more),
  subst (λ (d : List Point). RestRings n m.multi (with_ring m d) z v) (append_assoc points (record { x = x; y = y } ∷ []) ps) rest,
)

close_ring : (n : ℕ) (m : Notes) (points : List Point) (t : List ℕ) (v : List Ring) → RestRings n m.multi (with_ring m points) t v → RestPoints n m points (41 ∷ t) v
close_ring n m points t v r = ([], t, no_space (41 ∷ t), subst (λ (d : List Point). RestRings n m.multi (with_ring m d) t v) (sym (append-nil points)) r)

comma_ring : (n : ℕ) (multi : Bool) (m : Notes) (t : List ℕ) (v : List Ring) → ((u w : List ℕ) × (r : Ring) × Spaces t u × IsRing n u r w × RestRings n multi (m.rings ++ r ∷ []) w v) → RestRings n multi m.rings (44 ∷ t) v
comma_ring n multi m t v (u, w, r, s, ring, (rs, x, more, rest)) =
    (r ∷ rs, x, (t, u, w, no_space (44 ∷ t), s, ring, more), subst (λ (d : List Ring). RestBody n multi d x v) (append_assoc m.rings (r ∷ []) rs) rest)

close_body : (n : ℕ) (multi : Bool) (m : Notes) (t : List ℕ) (v : List Ring) → Rest n (closed multi) m t v → RestRings n multi m.rings (41 ∷ t) v
close_body n true m t v r = ([], t, no_space (41 ∷ t), subst (λ (d : List Ring). RestBodies n d t v) (sym (append-nil m.rings)) r)
close_body n false m t v r = ([], t, no_space (41 ∷ t), subst (λ (d : List Ring). RestLayer n d t v) (sym (append-nil m.rings)) r)

comma_body : (n : ℕ) (m : Notes) (t : List ℕ) (v : List Ring) → Rest n BeforeBody m t v → RestBodies n m.rings (44 ∷ t) v
comma_body n m t v (u, w, rs, s, body, (bodies, x, more, rest)) =
    (rs ∷ bodies, x, (t, u, w, no_space (44 ∷ t), s, body, more), subst (λ (d : List Ring). RestLayer n d x v) (append_assoc m.rings rs (joined bodies)) rest)

close_multi : (n : ℕ) (m : Notes) (t : List ℕ) (v : List Ring) → RestLayer n m.rings t v → RestBodies n m.rings (41 ∷ t) v
close_multi n m t v r = ([], t, no_space (41 ∷ t), subst (λ (d : List Ring). RestLayer n d t v) (sym (append-nil m.rings)) r)

-- ---- numbers

first_digit : (m : Notes) (b : ℕ) (t : List ℕ) (x : Number) (u : List ℕ) → IsTrue (is_digit b) → RestDigits (record m { magnitude = b - 48 }) t x u → AllOfDigits m (b ∷ t) x u
first_digit m b t x u h (ds, all, e, is) = (value_after (b - 48) ds, (b, ds, h, all, ap (λ (y : List ℕ). b ∷ y) e, refl), is)

next_digit : (m : Notes) (b : ℕ) (t : List ℕ) (x : Number) (u : List ℕ) → IsTrue (is_digit b) → RestDigits (record m { magnitude = 10 * m.magnitude + (b - 48) }) t x u → RestDigits m (b ∷ t) x u
next_digit m b t x u h (ds, all, e, is) = (b ∷ ds, (h, all), ap (λ (y : List ℕ). b ∷ y) e, is)

plain_number : (n : ℕ) (m : Notes) (b : ℕ) (t : List ℕ) (x : Number) (u : List ℕ) → IsTrue (is_digit b) → RestDigits (record m { number_at = n - length (b ∷ t); negative = false; magnitude = b - 48 }) t x u → IsNumber n (b ∷ t) x u
plain_number n m b t x u h (ds, all, e, is) = (value_after (b - 48) ds, inl ((b, ds, h, all, ap (λ (y : List ℕ). b ∷ y) e, refl), is))

minus_number : (n : ℕ) (m : Notes) (t : List ℕ) (x : Number) (u : List ℕ) → AllOfDigits (record m { number_at = n - length (45 ∷ t); negative = true; magnitude = 0 }) t x u → IsNumber n (45 ∷ t) x u
minus_number n m t x u (k, digits, is) = (k, inr (t, refl, digits, is))

-- ---- a step

-- what the machine's notes keep: the words are not passed, and bodies stand in a multipolygon alone
abbrev pub Bounded : Place → Bool → Type 0
Bounded (Keyword k) multi = k ≤ 12
Bounded (Empty k) multi = k < 5
Bounded BeforeBody multi = multi ≡ true
Bounded AfterBody multi = multi ≡ true
Bounded p multi = Unit {0}

abbrev pub Keeps : Place → Notes → Type 0
Keeps p m = Bounded p m.multi

pub back : (n b : ℕ) (t : List ℕ) (p : Place) (k : Class) (m : Notes) (v : List Ring) → IsKind b k → Keeps p m
    → IfSome (turn p k m.multi) (λ q. Rest n q (noted (n - length (b ∷ t)) p k m) t v → Rest n p m (b ∷ t) v)
back n b t Between Space m v h g = between_space n b m.rings t v h
back n b t Between (Letter c) m v h g = first_letter n b c m t v h
back n b t (Keyword k) (Letter c) m v h g = next_letter n k b c m t v h
back n b t (Keyword k) Space m v h g = at_twelve n k KeywordGap m t (b ∷ t) v (word_space n b m t v h)
back n b t (Keyword k) Open m v h g = at_twelve n k (opened m.multi) m t (b ∷ t) v (λ r. (b ∷ t, refl, inl (subst (λ (c : ℕ). RestInner n m (c ∷ t) v) (sym h) (opens n m.multi m t v r))))
back n b t KeywordGap Space m v h g = gap_space n b m t v h
back n b t KeywordGap Open m v h g = λ r. inl (subst (λ (c : ℕ). RestInner n m (c ∷ t) v) (sym h) (opens n m.multi m t v r))
back n b t KeywordGap (Letter c) m v h g = empty_first n b c m t v h
back n b t (Empty k) (Letter c) m v h g = empty_next n k b c m t v h
back n b t Ended Space m v h g = ended_space n b m.rings t v h
back n b t BeforeBody Space m v h g = λ r. (r.0, r.1, r.2, space_more h r.3, r.4, r.5)
back n b t BeforeBody Open m v h g = λ r. subst (λ (c : ℕ). Rest n BeforeBody m (c ∷ t) v) (sym h) (body_open n m.multi m t v g r)
back n b t BeforeRing Space m v h g = λ r. (r.0, r.1, r.2, space_more h r.3, r.4, r.5)
back n b t BeforeRing Open m v h g = λ r. subst (λ (c : ℕ). Rest n BeforeRing m (c ∷ t) v) (sym h) (ring_open n m t v r)
back n b t BeforePoint Space m v h g = λ r. (r.0, r.1, r.2, space_more h r.3, r.4, r.5)
back n b t BeforePoint Minus m v h g = λ r. subst (λ (c : ℕ). Rest n BeforePoint m (c ∷ t) v) (sym h) (45 ∷ t, r.0, r.1, no_space (45 ∷ t), minus_number n m t r.1 r.0 r.2, r.3)
back n b t BeforePoint (Digit d) m v (h, e) g = λ r. (b ∷ t, r.0, r.1, no_space (b ∷ t), plain_number n m b t r.1 r.0 h (subst (λ (c : ℕ). RestDigits (record m { number_at = n - length (b ∷ t); negative = false; magnitude = c }) t r.1 r.0) e r.2), r.3)
back n b t MinusX (Digit d) m v (h, e) g = λ r. (r.0, r.1, first_digit m b t r.1 r.0 h (subst (λ (c : ℕ). RestDigits (record m { magnitude = c }) t r.1 r.0) e r.2), r.3)
back n b t DigitsX (Digit d) m v (h, e) g = λ r. (r.0, r.1, next_digit m b t r.1 r.0 h (subst (λ (c : ℕ). RestDigits (record m { magnitude = 10 * m.magnitude + c }) t r.1 r.0) e r.2), r.3)
back n b t DigitsX Space m v h g = λ r. (b ∷ t, number m, ([], tt, refl, refl), (r.0, gap_of h r.1, r.2))
back n b t BeforeY Space m v h g = λ r. (r.0, space_more h r.1, r.2)
back n b t BeforeY Minus m v h g = λ r. subst (λ (c : ℕ). Rest n BeforeY m (c ∷ t) v) (sym h) (45 ∷ t, no_space (45 ∷ t), (r.1, r.0, minus_number n m t r.1 r.0 r.2, r.3))
back n b t BeforeY (Digit d) m v (h, e) g = λ r. (b ∷ t, no_space (b ∷ t), (r.1, r.0, plain_number n m b t r.1 r.0 h (subst (λ (c : ℕ). RestDigits (record m { number_at = n - length (b ∷ t); negative = false; magnitude = c }) t r.1 r.0) e r.2), r.3))
back n b t MinusY (Digit d) m v (h, e) g = λ r. (r.0, r.1, first_digit m b t r.1 r.0 h (subst (λ (c : ℕ). RestDigits (record m { magnitude = c }) t r.1 r.0) e r.2), r.3)
back n b t DigitsY (Digit d) m v (h, e) g = λ r. (r.0, r.1, next_digit m b t r.1 r.0 h (subst (λ (c : ℕ). RestDigits (record m { magnitude = 10 * m.magnitude + c }) t r.1 r.0) e r.2), r.3)
back n b t DigitsY Space m v h g = λ r. (b ∷ t, number m, ([], tt, refl, refl), (r.0, r.1, more_space (IsPoint n) b t r.0 r.1 h r.2, r.3))
back n b t DigitsY Comma m v h g = λ r. (b ∷ t, number m, ([], tt, refl, refl), subst (λ (c : ℕ). RestPoints n m (with_point m) (c ∷ t) v) (sym h) (comma_point n m (with_point m) t v r))
back n b t DigitsY Close m v h g = λ r. (b ∷ t, number m, ([], tt, refl, refl), subst (λ (c : ℕ). RestPoints n m (with_point m) (c ∷ t) v) (sym h) (close_ring n m (with_point m) t v r))
back n b t AfterPoint Space m v h g = λ r. (r.0, r.1, more_space (IsPoint n) b t r.0 r.1 h r.2, r.3)
back n b t AfterPoint Comma m v h g = λ r. subst (λ (c : ℕ). RestPoints n m m.points (c ∷ t) v) (sym h) (comma_point n m m.points t v r)
back n b t AfterPoint Close m v h g = λ r. subst (λ (c : ℕ). RestPoints n m m.points (c ∷ t) v) (sym h) (close_ring n m m.points t v r)
back n b t AfterRing Space m v h g = λ r. (r.0, r.1, more_space (IsRing n) b t r.0 r.1 h r.2, r.3)
back n b t AfterRing Comma m v h g = λ r. subst (λ (c : ℕ). RestRings n m.multi m.rings (c ∷ t) v) (sym h) (comma_ring n m.multi m t v r)
back n b t AfterRing Close m v h g = λ r. subst (λ (c : ℕ). RestRings n m.multi m.rings (c ∷ t) v) (sym h) (close_body n m.multi m t v r)
back n b t AfterBody Space m v h g = λ r. (r.0, r.1, more_space (IsBody n) b t r.0 r.1 h r.2, r.3)
back n b t AfterBody Comma m v h g = λ r. subst (λ (c : ℕ). RestBodies n m.rings (c ∷ t) v) (sym h) (comma_body n m t v r)
back n b t AfterBody Close m v h g = λ r. subst (λ (c : ℕ). RestBodies n m.rings (c ∷ t) v) (sym h) (close_multi n m t v r)
back n b t p k m v h g = tt
