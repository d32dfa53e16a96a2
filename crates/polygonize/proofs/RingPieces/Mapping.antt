-- Cuts of a ring whose vertices are named by another value each.
use Rattle.std.proofs.Common.{◌≡◌, ℕ, suc, ◌<◌, List, [], ◌∷◌, ◌++◌, length, get_or, map, sym, ◌∙◌, ap, subst, arith}
use Rattle.std.specs.Prelude.{All}
use Rattle.std.proofs.lemmas.List.{map-append, get_or-map, length-map}
use Rattle.std.proofs.lemmas.List.Elements.{All-append, All-cons, All-nil, All-head, All-tail}
use Rattle.geom.specs.Rings.{IsSimple, IsCut}
use Rattle.geom.specs.Rings.IsCut.{whole, taken}

pub all_left : {X : Type 0} (P : X → Type 0) (xs ys : List X) → All P (xs ++ ys) → All P xs
all_left P [] ys h = All-nil P
all_left P (x ∷ xs) ys h = All-cons P x xs (All-head P x (xs ++ ys) h) (all_left P xs ys (All-tail P x (xs ++ ys) h))

pub all_right : {X : Type 0} (P : X → Type 0) (xs ys : List X) → All P (xs ++ ys) → All P ys
all_right P [] ys h = h
all_right P (x ∷ xs) ys h = all_right P xs ys (All-tail P x (xs ++ ys) h)

-- different names of different vertices
abbrev pub IsNaming : {X Y : Type 0} → (X → Type 0) → (X → Y) → Type 0
IsNaming {X} P f = (x y : X) → P x → P y → f x ≡ f y → x ≡ y

pub simple_map : {X Y : Type 0} (P : X → Type 0) (f : X → Y) → IsNaming P f → (xs : List X) → All P xs → IsSimple xs → IsSimple (map f xs)
simple_map P f n [] h s = λ i j d l k. absurd (omega arith)
simple_map {X} {Y} P f n (x ∷ xs) h s = λ i j d l k e. s i j x l (below j k) (n (get_or (x ∷ xs) i x) (get_or (x ∷ xs) j x) (h i x (first i j l k)) (h j x (below j k))
    (sym (get_or-map f (x ∷ xs) i x d (first i j l k)) ∙ e ∙ get_or-map f (x ∷ xs) j x d (below j k)))
  where
    len : length (map f (x ∷ xs)) ≡ length (x ∷ xs)
    len = length-map (x ∷ xs) f

    below : (j : ℕ) → j < length (map f (x ∷ xs)) → j < length (x ∷ xs)
    below j k = omega (arith, k, len)

    first : (i j : ℕ) → i < j → j < length (map f (x ∷ xs)) → i < length (x ∷ xs)
    first i j l k = omega (arith, l, below j k)

-- where a piece is taken out of a ring, what holds of its vertices holds of those up to the piece's end, and of those that are left
cut_parts : {X : Type 0} (P : X → Type 0) {ring : List X} (front : List X) (v : X) (mid back : List X) → ring ≡ (front ++ v ∷ mid) ++ v ∷ back → All P ring → All P (front ++ v ∷ mid) × All P (front ++ v ∷ back)
cut_parts {X} P front v mid back e h = (left, All-append P front (v ∷ back) (all_left P front (v ∷ mid) left) (all_right P (front ++ v ∷ mid) (v ∷ back) parts))
  where
    parts : All P ((front ++ v ∷ mid) ++ v ∷ back)
    parts = let Q : List X → Type 0 = All P in subst Q e h

    left : All P (front ++ v ∷ mid)
    left = all_left P (front ++ v ∷ mid) (v ∷ back) parts

pub cut_map : {X Y : Type 0} (P : X → Type 0) (f : X → Y) → IsNaming P f → {ring : List X} {pieces : List (List X)} → IsCut ring pieces → All P ring → IsCut (map f ring) (map (map f) pieces)
cut_map P f n (whole {ring = r} s) h = whole (simple_map P f n r h s)
cut_map {X} {Y} P f n (taken {ring = r} {pieces = ps} front v mid back e s c) h = taken (map f front) (f v) (map f mid) (map f back) split
    (let Q : List Y → Type 0 = IsSimple in subst Q (map-append f front (v ∷ mid)) (simple_map P f n (front ++ v ∷ mid) parts.0 s))
    (let Q : List Y → Type 0 = λ t. IsCut t (map (map f) ps) in subst Q (map-append f front (v ∷ back)) (cut_map P f n c parts.1))
  where
    parts : All P (front ++ v ∷ mid) × All P (front ++ v ∷ back)
    parts = cut_parts P front v mid back e h

    split : map f r ≡ (map f front ++ f v ∷ map f mid) ++ f v ∷ map f back
    split = ap (map f) e ∙ map-append f (front ++ v ∷ mid) (v ∷ back) ∙ ap (λ t. t ++ f v ∷ map f back) (map-append f front (v ∷ mid))

-- what holds of the vertices of a ring holds of those of its pieces
pub cut_all : {X : Type 0} (P : X → Type 0) {ring : List X} {pieces : List (List X)} → IsCut ring pieces → All P ring → All (All P) pieces
cut_all P (whole {ring = r} s) h = All-cons (All P) r [] h (All-nil (All P))
cut_all {X} P (taken {ring = r} {pieces = ps} front v mid back e s c) h = All-cons (All P) (v ∷ mid) ps (all_right P front (v ∷ mid) parts.0) (cut_all P c parts.1)
  where
    parts : All P (front ++ v ∷ mid) × All P (front ++ v ∷ back)
    parts = cut_parts P front v mid back e h

simple_part : {X : Type 0} (xs ys : List X) → IsSimple (xs ++ ys) → IsSimple ys
simple_part [] ys s = s
simple_part (x ∷ xs) ys s = simple_part xs ys (λ i j d h k. s (suc i) (suc j) d (omega (arith, h)) (omega (arith, k)))

-- no piece visits a vertex twice
pub cut_simple : {X : Type 0} {ring : List X} {pieces : List (List X)} → IsCut ring pieces → All IsSimple pieces
cut_simple (whole {ring = r} s) = All-cons IsSimple r [] s (All-nil IsSimple)
cut_simple (taken {ring = r} {pieces = ps} front v mid back e s c) = All-cons IsSimple (v ∷ mid) ps (simple_part front (v ∷ mid) s) (cut_simple c)
