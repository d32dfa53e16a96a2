-- A ring's rotations and its pieces have its edges, each once.
use Rattle.std.proofs.Common.{◌≡◌, inl, inr, List, [], ◌∷◌, ◌++◌, refl, sym, ◌∙◌, ap, subst, ⊎_elim, append_assoc}
use Rattle.std.specs.Prelude.{Contains, flat_map, IsPermutation}
use Rattle.std.proofs.lemmas.List.{append-nil}
use Rattle.std.proofs.lemmas.List.Sorted.{IsPermutation-refl, IsPermutation-sym, IsPermutation-trans, IsPermutation-append_comm, IsPermutation-append_left, IsPermutation-append_right, Contains-permutation}
use Rattle.geom.specs.declared.point.Pt.{Pt}
use Rattle.geom.specs.declared.directed.DirectedEdge.{DirectedEdge}
use Rattle.geom.specs.ListOrder.{IsRotation}
use Rattle.geom.specs.Directed.{from_to}
use Rattle.geom.specs.Rings.{along, around, ring_edges, IsCut}
use Rattle.geom.specs.Rings.IsCut.{whole, taken}
use Rattle.geom.proofs.Lists.{In, contains_in, in_contains, in_append, in_front, in_back}

-- ---- along and round
pub along-append : {X Y : Type 0} (f : X → X → Y) (x : X) (ys : List X) (y : X) (zs : List X) (z : X) → along f x (ys ++ y ∷ zs) z ≡ along f x ys y ++ along f y zs z
along-append f x [] y zs z = refl
along-append f x (w ∷ ys) y zs z = ap (λ t. f x w ∷ t) (along-append f w ys y zs z)

-- the same list in another order
pub same_order : {X : Type 0} (xs ys : List X) → xs ≡ ys → IsPermutation xs ys
same_order {X} xs ys e = let P : List X → Type 0 = λ t. IsPermutation xs t in subst P e (IsPermutation-refl xs)

-- the middle list to the front
pub to_front : {X : Type 0} (us vs ws : List X) → IsPermutation (us ++ (vs ++ ws)) (vs ++ (us ++ ws))
to_front us vs ws = IsPermutation-trans _ _ _ (same_order (us ++ (vs ++ ws)) ((us ++ vs) ++ ws) (sym (append_assoc us vs ws)))
    (IsPermutation-trans _ _ _ (IsPermutation-append_left ws (us ++ vs) (vs ++ us) (IsPermutation-append_comm us vs)) (same_order ((vs ++ us) ++ ws) (vs ++ (us ++ ws)) (append_assoc vs us ws)))

-- a ring begun elsewhere has the same neighbours
pub around-rotation : {X Y : Type 0} (f : X → X → Y) (front back : List X) → IsPermutation (around f (front ++ back)) (around f (back ++ front))
around-rotation f [] back = same_order (around f back) (around f (back ++ [])) (ap (around f) (sym (append-nil back)))
around-rotation f (x ∷ xs) [] = same_order (around f ((x ∷ xs) ++ [])) (around f (x ∷ xs)) (ap (around f) (append-nil (x ∷ xs)))
around-rotation f (x ∷ xs) (y ∷ ys) = IsPermutation-trans _ _ _ (same_order (around f ((x ∷ xs) ++ y ∷ ys)) (along f x xs y ++ along f y ys x) (along-append f x xs y ys x))
    (IsPermutation-trans _ _ _ (IsPermutation-append_comm (along f x xs y) (along f y ys x)) (same_order (along f y ys x ++ along f x xs y) (around f ((y ∷ ys) ++ x ∷ xs)) (sym (along-append f y ys x xs y))))

-- a ring that visits v twice falls into two
pub around-cut : {X Y : Type 0} (f : X → X → Y) (front : List X) (v : X) (mid back : List X)
    → IsPermutation (around f ((front ++ v ∷ mid) ++ v ∷ back)) (around f (v ∷ mid) ++ around f (front ++ v ∷ back))
around-cut f [] v mid back = same_order (around f ((v ∷ mid) ++ v ∷ back)) (around f (v ∷ mid) ++ around f (v ∷ back)) (along-append f v mid v back v)
around-cut f (x ∷ xs) v mid back =
    IsPermutation-trans _ _ _ (same_order (along f x ((xs ++ v ∷ mid) ++ v ∷ back) x) (along f x xs v ++ (along f v mid v ++ along f v back x)) split)
    (IsPermutation-trans _ _ _ (to_front (along f x xs v) (along f v mid v) (along f v back x))
    (same_order (along f v mid v ++ (along f x xs v ++ along f v back x)) (along f v mid v ++ along f x (xs ++ v ∷ back) x) (ap (λ t. along f v mid v ++ t) (sym (along-append f x xs v back x)))))
  where
    split : along f x ((xs ++ v ∷ mid) ++ v ∷ back) x ≡ along f x xs v ++ (along f v mid v ++ along f v back x)
    split = along-append f x (xs ++ v ∷ mid) v back x ∙ ap (λ t. t ++ along f v back x) (along-append f x xs v mid v) ∙ append_assoc (along f x xs v) (along f v mid v) (along f v back x)

-- ---- rotations and pieces
pub rotated_edges : (ring turned : List Pt) → IsRotation ring turned → IsPermutation (ring_edges ring) (ring_edges turned)
rotated_edges ring turned r = IsPermutation-trans _ _ _ (same_order (ring_edges ring) (ring_edges (r.front ++ r.back)) (ap ring_edges r.was))
    (IsPermutation-trans _ _ _ (around-rotation from_to r.front r.back) (same_order (ring_edges (r.back ++ r.front)) (ring_edges turned) (ap ring_edges (sym r.is))))

pub cut_edges : {ring : List Pt} {pieces : List (List Pt)} → IsCut ring pieces → IsPermutation (ring_edges ring) (flat_map ring_edges pieces)
cut_edges (whole {ring = r} s) = same_order (ring_edges r) (ring_edges r ++ []) (sym (append-nil (ring_edges r)))
cut_edges (taken {ring = r} {pieces = ps} front v mid back e s c) =
    IsPermutation-trans _ _ _ (same_order (ring_edges r) (ring_edges ((front ++ v ∷ mid) ++ v ∷ back)) (ap ring_edges e))
    (IsPermutation-trans _ _ _ (around-cut from_to front v mid back)
    (IsPermutation-append_right (ring_edges (v ∷ mid)) (ring_edges (front ++ v ∷ back)) (flat_map ring_edges ps) (cut_edges c)))

-- ---- membership
pub in_permutation : {X : Type 0} (xs ys : List X) (x : X) → IsPermutation xs ys → In x xs → In x ys
in_permutation xs ys x p i = contains_in ys x (Contains-permutation xs ys x p (in_contains xs x i))

pub in_flat : {X Y : Type 0} (f : X → List Y) (xs : List X) (x : X) (y : Y) → In x xs → In y (f x) → In y (flat_map f xs)
in_flat f [] x y i j = absurd i
in_flat f (z ∷ xs) x y (inl e) j = in_front (f z) (flat_map f xs) y (subst (λ w. In y (f w)) (sym e) j)
in_flat f (z ∷ xs) x y (inr i) j = in_back (f z) (flat_map f xs) y (in_flat f xs x y i j)

pub flat_in : {X Y : Type 0} (f : X → List Y) (xs : List X) (y : Y) → In y (flat_map f xs) → (x : X) × In x xs × In y (f x)
flat_in f [] y i = absurd i
flat_in f (x ∷ xs) y i = ⊎_elim (λ j. (x, inl refl, j)) (λ j. let m = flat_in f xs y j in (m.0, inr m.1, m.2)) (in_append (f x) (flat_map f xs) y i)

pub piece_edge : (ring : List Pt) (pieces : List (List Pt)) → IsCut ring pieces → (piece : List Pt) → Contains pieces piece → (d : DirectedEdge) → Contains (ring_edges piece) d → Contains (ring_edges ring) d
piece_edge ring pieces c piece i d j = in_contains (ring_edges ring) d (in_permutation (flat_map ring_edges pieces) (ring_edges ring) d (IsPermutation-sym (ring_edges ring) (flat_map ring_edges pieces) (cut_edges c))
    (in_flat ring_edges pieces piece d (contains_in pieces piece i) (contains_in (ring_edges piece) d j)))
