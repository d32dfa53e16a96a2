-- The pieces of a ring that hold its first vertex begin with it.
use Rattle.std.proofs.Common.{◌≡◌, inl, inr, List, [], ◌∷◌, ◌++◌, refl, sym, ◌∙◌, ap, subst}
use Rattle.geom.specs.declared.point.Pt.{Pt}
use Rattle.geom.specs.Directed.{from_to}
use Rattle.geom.specs.Rings.{along, IsCut}
use Rattle.geom.specs.Rings.IsCut.{whole, taken}
use Rattle.geom.proofs.Lists.{In, in_back}
use Rattle.geom.proofs.OneCut.{simple_distinct}

-- the list begins with v
pub record BeginsWith {X : Type 0} (v : X) (xs : List X) : Type 0 where
  pub rest : List X
  pub is : xs ≡ v ∷ rest

head_same : {X : Type 0} (x y : X) (xs ys : List X) → x ∷ xs ≡ y ∷ ys → x ≡ y
head_same x y xs ys e = cc

pub holders_begin : {X : Type 0} {ring : List X} {pieces : List (List X)} → IsCut ring pieces → (v : X) → BeginsWith v ring → (piece : List X) → In piece pieces → In v piece → BeginsWith v piece
holders_begin {X} (whole {ring = r} s) v b piece (inl e) h = subst (BeginsWith v) e b
holders_begin {X} (whole {ring = r} s) v b piece (inr i) h = absurd i
holders_begin {X} (taken {ring = r} {pieces = ps} [] w mid back e s c) v b piece (inl q) h = record { rest = mid; is = sym q ∙ ap (λ t. t ∷ mid) (head_same w v (mid ++ w ∷ back) b.rest (sym e ∙ b.is)) }
holders_begin {X} (taken {ring = r} {pieces = ps} [] w mid back e s c) v b piece (inr i) h = holders_begin c v (record { rest = back; is = ap (λ t. t ∷ back) (head_same w v (mid ++ w ∷ back) b.rest (sym e ∙ b.is)) }) piece i h
holders_begin {X} (taken {ring = r} {pieces = ps} (x ∷ front) w mid back e s c) v b piece (inl q) h = absurd ((simple_distinct (x ∷ front ++ w ∷ mid) s).0 (in_back front (w ∷ mid) x
    (subst (λ (y : X). In y (w ∷ mid)) (sym (head_same x v ((front ++ w ∷ mid) ++ w ∷ back) b.rest (sym e ∙ b.is))) (subst (λ (l : List X). In v l) (sym q) h))))
holders_begin {X} (taken {ring = r} {pieces = ps} (x ∷ front) w mid back e s c) v b piece (inr i) h =
    holders_begin c v (record { rest = front ++ w ∷ back; is = ap (λ t. t ∷ front ++ w ∷ back) (head_same x v ((front ++ w ∷ mid) ++ w ∷ back) b.rest (sym e ∙ b.is)) }) piece i h

-- a piece among others that begins with v
pub record BeginsAmong {X : Type 0} (v : X) (pieces : List (List X)) : Type 0 where
  pub piece : List X
  pub inside : In piece pieces
  pub begins : BeginsWith v piece

later : {X : Type 0} (v : X) (p : List X) (pieces : List (List X)) → BeginsAmong v pieces → BeginsAmong v (p ∷ pieces)
later v p pieces b = record { piece = b.piece; inside = inr b.inside; begins = b.begins }

pub one_begins : {X : Type 0} {ring : List X} {pieces : List (List X)} → IsCut ring pieces → (v : X) → BeginsWith v ring → BeginsAmong v pieces
one_begins (whole {ring = r} s) v b = record { piece = r; inside = inl refl; begins = b }
one_begins (taken {ring = r} {pieces = ps} [] w mid back e s c) v b = record { piece = w ∷ mid; inside = inl refl; begins = record { rest = mid; is = ap (λ t. t ∷ mid) (head_same w v (mid ++ w ∷ back) b.rest (sym e ∙ b.is)) } }
one_begins (taken {ring = r} {pieces = ps} (x ∷ front) w mid back e s c) v b =
    later v (w ∷ mid) ps (one_begins c v (record { rest = front ++ w ∷ back; is = ap (λ t. t ∷ front ++ w ∷ back) (head_same x v ((front ++ w ∷ mid) ++ w ∷ back) b.rest (sym e ∙ b.is)) }))

-- ---- the edge that arrives at the first vertex
-- the last element of x and the list
abbrev pub last_of : {X : Type 0} → X → List X → X
last_of x [] = x
last_of x (y ∷ ys) = last_of y ys

pub closes_last : (x : Pt) (ys : List Pt) (v : Pt) → In (from_to (last_of x ys) v) (along from_to x ys v)
closes_last x [] v = inl refl
closes_last x (y ∷ ys) v = inr (closes_last y ys v)

pub arrives_last : (x : Pt) (ys : List Pt) (v u : Pt) → ¬ (In v ys) → In (from_to u v) (along from_to x ys v) → u ≡ last_of x ys
arrives_last x [] v u n (inl e) = sym (ap (λ d. d.from) e)
arrives_last x [] v u n (inr i) = absurd i
arrives_last x (y ∷ ys) v u n (inl e) = absurd (n (inl (ap (λ d. d.to) e)))
arrives_last x (y ∷ ys) v u n (inr i) = arrives_last y ys v u (λ j. n (inr j)) i
