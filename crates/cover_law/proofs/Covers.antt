-- Cover sets: what they have, and what changes across an edge.
use Rattle.std.proofs.Common.{◌≡◌, ◌⊎◌, inl, inr, ℕ, zero, suc, ◌+◌, ◌<◌, ◌≤◌, List, [], ◌∷◌, Bool, true, false, not, cond, refl, sym, ap, ◌∙◌, arith, subst, ⊎_elim}
use Rattle.std.specs.List.{AllPairs, filter}
use Rattle.std.specs.Prelude.{if◌then◌else◌}
use Rattle.std.proofs.lemmas.List.Kept.{AllPairs-cons, AllPairs-filter}
use Rattle.geom.specs.Parity as geom
use Rattle.geom.specs.ResultEdges.{left_side, right_side}
use Rattle.geom.proofs.Lists.{In, contains_in, in_contains, map_in}
use Rattle.geom.proofs.Owners.{all_in}
use Rattle.points_law.proofs.Choices.{◌⊕◌}
use Rattle.points_law.proofs.Turn.{crossing}
use Rattle.cover_law.specs.Cover.{border, cover, edge_in, edges_in, has, numbers_from}
use Rattle.cover_law.specs.Laws.{CoverIsExact, RightIsAcross}
use Rattle.cover_law.proofs.Owned.{owned, owned_at, owned_even, owned_parity}
use Rattle.cover_law.proofs.Projected.{all_edges}

-- ---- numbers from k on
pub in_numbers : (k n f : ℕ) → In f (numbers_from k n) → (k ≤ f) × (f < k + n)
in_numbers k zero f i = absurd i
in_numbers k (suc n) f (inl e) = (omega (arith, e), omega (arith, e))
in_numbers k (suc n) f (inr i) = let r = in_numbers (suc k) n f i in (let a = r.0 in omega arith, let b = r.1 in omega arith)

equal_or_more : (k f : ℕ) → k ≤ f → (k ≡ f) ⊎ (suc k ≤ f)
equal_or_more zero zero a = inl refl
equal_or_more zero (suc f) a = inr (omega arith)
equal_or_more (suc k) zero a = absurd (omega arith)
equal_or_more (suc k) (suc f) a = ⊎_elim (λ e. inl (ap suc e)) (λ l. inr (omega arith)) (equal_or_more k f (omega arith))

pub numbers_in : (k n f : ℕ) → k ≤ f → f < k + n → In f (numbers_from k n)
numbers_in k zero f a b = absurd (omega arith)
numbers_in k (suc n) f a b = ⊎_elim (λ e. inl e) (λ l. inr (numbers_in (suc k) n f l (omega arith))) (equal_or_more k f a)

pub ascend : (k n : ℕ) → AllPairs (λ f g. f < g) (numbers_from k n)
ascend k zero = λ i j d a b. absurd (omega arith)
ascend k (suc n) = AllPairs-cons (λ (f g : ℕ). f < g) k (numbers_from (suc k) n) (all_in (λ g. k < g) (numbers_from (suc k) n) (λ g i. let r = (in_numbers (suc k) n g i).0 in omega arith)) (ascend (suc k) n)

-- ---- members of a filtered list
in_kept : (t : Bool) (x : ℕ) (xs : List ℕ) (f : ℕ) → In f (cond t (x ∷ xs) xs) → ((x ≡ f) × (t ≡ true)) ⊎ In f xs
in_kept true x xs f (inl e) = inl (e, refl)
in_kept true x xs f (inr i) = inr i
in_kept false x xs f i = inr i

kept_in : (t : Bool) (x : ℕ) (xs : List ℕ) (f : ℕ) → In f xs → In f (cond t (x ∷ xs) xs)
kept_in true x xs f i = inr i
kept_in false x xs f i = i

here_in : (t : Bool) (x : ℕ) (xs : List ℕ) (f : ℕ) → t ≡ true → x ≡ f → In f (cond t (x ∷ xs) xs)
here_in true x xs f h e = inl e
here_in false x xs f h e = absurd (let k = h in cc)

pub filtered : (p : ℕ → Bool) (xs : List ℕ) (f : ℕ) → In f (filter p xs) → In f xs × (p f ≡ true)
filtered p [] f i = absurd i
filtered p (x ∷ xs) f i = ⊎_elim (λ k. (inl k.0, subst (λ (y : ℕ). p y ≡ true) k.0 k.1)) (λ k. let r = filtered p xs f k in (inr r.0, r.1)) (in_kept (p x) x (filter p xs) f i)

pub passes : (p : ℕ → Bool) (xs : List ℕ) (f : ℕ) → In f xs → p f ≡ true → In f (filter p xs)
passes p [] f i h = absurd i
passes p (x ∷ xs) f (inl e) h = here_in (p x) x (filter p xs) f (subst (λ (y : ℕ). p y ≡ true) (sym e) h) e
passes p (x ∷ xs) f (inr i) h = kept_in (p x) x (filter p xs) f (passes p xs f i h)

pub cover_is_exact : CoverIsExact
cover_is_exact count bs z = (
  AllPairs-filter (λ (f g : ℕ). f < g) (λ f. geom.parity (border f bs) z) (numbers_from 0 count) (ascend 0 count),
  (λ f. (
    (λ i. let r = filtered (λ k. geom.parity (border k bs) z) (numbers_from 0 count) f (contains_in (cover count bs z) f i) in (let b = (in_numbers 0 count f r.0).1 in omega arith, r.1)),
    (λ i. in_contains (cover count bs z) f (passes (λ k. geom.parity (border k bs) z) (numbers_from 0 count) f (numbers_in 0 count f (omega arith) (let b = i.0 in omega arith)) i.1)),
  )),
)

-- ---- across an edge
turns : (l t : Bool) → l ⊕ t ≡ (if t then not l else l)
turns true true = refl
turns true false = refl
turns false true = refl
turns false false = refl

pub right_is_across : RightIsAcross
right_is_across bs h b i f =
    let es = all_edges bs h in
    let j = contains_in bs b i in
    owned_parity f bs es.distinct (right_side b.edge.p b.edge.q)
    ∙ crossing (edges_in bs) es (owned f bs) (owned_even f bs es.distinct (h.even f)) b.edge (map_in edge_in bs b j)
    ∙ ap (λ (t : Bool). t ⊕ owned f bs b.edge) (sym (owned_parity f bs es.distinct (left_side b.edge.p b.edge.q)))
    ∙ ap (λ (t : Bool). geom.parity (border f bs) (left_side b.edge.p b.edge.q) ⊕ t) (owned_at f bs es.distinct b j)
    ∙ turns (geom.parity (border f bs) (left_side b.edge.p b.edge.q)) (has f b.features)
