-- Rings of the text, run by run.
use Rattle.std.proofs.Common.{◌≡◌, ℕ, zero, suc, ◌+◌, ◌<◌, ◌≤◌, Bool, true, false, List, [], ◌∷◌, ◌++◌, length, get_or, map, take, drop, refl, sym, ◌∙◌, ap, subst, arith}
use Rattle.std.specs.Prelude.{All}
use Rattle.std.proofs.lemmas.List.{map-append, append-nil, get_or-drop, length-drop}
use Rattle.std.proofs.lemmas.List.Elements.{All-append, All-cons, All-more, All-nil}
use Rattle.std.proofs.lemmas.List.Concat.{flat_map-append}
use Rattle.geom.specs.declared.point.Pt.{Pt}
use Rattle.geom.specs.Canonical.{Shape, written_rings}
use Rattle.polygonize.specs.Grouped.{Group, members, shape_of, BeginsWithShell, AreGrouped}

take_more : {X : Type 0} (xs : List X) (m n k j : ℕ) (d : X) → m < length xs → k ≡ suc m → j ≡ m + suc n → take m xs ++ get_or xs m d ∷ take n (drop k xs) ≡ take j xs
take_more [] m n k j d h e f = absurd (omega arith)
take_more (x ∷ xs) zero n k j d h e f = ap (λ t. x ∷ take n (drop t (x ∷ xs))) e ∙ ap (λ t. take t (x ∷ xs)) (sym (f ∙ plain n))
  where
    plain : (n : ℕ) → zero + suc n ≡ suc n
    plain n = omega arith
take_more (x ∷ xs) (suc m) n k j d h e f = ap (λ t. x ∷ (take m xs ++ get_or xs m d ∷ take n (drop t (x ∷ xs)))) e ∙ ap (λ t. x ∷ t) (take_more xs m n (suc m) (m + suc n) d (omega arith) refl refl) ∙ ap (λ t. take t (x ∷ xs)) (sym (f ∙ shift m n))
  where
    shift : (m n : ℕ) → suc m + suc n ≡ suc (m + suc n)
    shift m n = omega arith

pub one_polygon : {X : Type 0} (f : X → List Pt) (xs : List X) (at n m : ℕ) (vs more : List Shape) (v : Shape) (x : X) → at < length xs → get_or xs at x ≡ x → m ≡ n → more ≡ vs ++ v ∷ [] → v.shell ≡ f x → v.holes ≡ map f (take n (drop (at + 1) xs))
    → written_rings vs ≡ map f (take at xs) → written_rings more ≡ map f (take (at + (1 + m)) xs)
one_polygon f xs at n m vs more v x h e k q p t w = ap written_rings q ∙ flat_map-append (λ p. p.shell ∷ p.holes) vs (v ∷ [])
    ∙ (λ i. w i ++ ((p i ∷ t i) ++ [])) ∙ ap (λ u. map f (take at xs) ++ u) (append-nil (f x ∷ map f (take n (drop (at + 1) xs))))
    ∙ sym (map-append f (take at xs) (x ∷ take n (drop (at + 1) xs))) ∙ ap (map f) (ap (λ u. take at xs ++ u ∷ take n (drop (at + 1) xs)) (sym e) ∙ take_more xs at n (at + 1) (at + (1 + n)) x h (next at) (sum at n)) ∙ ap (λ u. map f (take (at + (1 + u)) xs)) (sym k)
  where
    next : (at : ℕ) → at + 1 ≡ suc at
    next at = omega arith

    sum : (at n : ℕ) → at + (1 + n) ≡ at + suc n
    sum at n = omega arith

pub in_range : (at n m total : ℕ) → m ≡ n → (at + 1) + n ≤ total → at + (1 + m) ≤ total
in_range at n m total e h = omega arith

-- ---- one more hole
pub one_hole : {W : Type 0} (hole : W → Bool) (ws : List W) (start n m end : ℕ) (w : W) → end ≡ start + n → end < length ws → hole (get_or ws end w) ≡ true → m ≡ n + 1 → All (λ v. hole v ≡ true) (take n (drop start ws)) → All (λ v. hole v ≡ true) (take m (drop start ws))
one_hole {W} hole ws start n m end w e h t f a = let P : ℕ → Type 0 = λ k. All (λ v. hole v ≡ true) (take k (drop start ws)) in
    subst P (sym f) (All-more (λ v. hole v ≡ true) (drop start ws) n w inside a (let Q : W → Type 0 = λ v. hole v ≡ true in subst Q (ap (λ k. get_or ws k w) e ∙ sym (get_or-drop start ws n w)) t))
  where
    inside : n < length (drop start ws)
    inside = let l = length-drop start ws in omega (arith, l, h, e)

-- ---- one more group
begins_at : {W : Type 0} (hole : W → Bool) (ws : List W) (at : ℕ) (w : W) → at < length ws → get_or ws at w ≡ w → BeginsWithShell hole (drop at ws) → hole w ≡ false
begins_at hole [] at w h is b = absurd (omega arith)
begins_at hole (v ∷ ws) zero w h is b = ap hole (sym is) ∙ b
begins_at hole (v ∷ ws) (suc at) w h is b = begins_at hole ws at w (omega (arith, h)) is b

pub one_group_more : {W : Type 0} (hole : W → Bool) (f : W → List Pt) (ws : List W) (at n m : ℕ) (vs more : List Shape) (v : Shape) (w : W) → at < length ws → get_or ws at w ≡ w → m ≡ n → more ≡ vs ++ v ∷ []
    → v.shell ≡ f w → v.holes ≡ map f (take n (drop (at + 1) ws)) → All (λ v. hole v ≡ true) (take n (drop (at + 1) ws)) → BeginsWithShell hole (drop at ws)
    → AreGrouped hole f (take at ws) vs → AreGrouped hole f (take (at + (1 + m)) ws) more
one_group_more {W} hole f ws at n m vs more v w h is e k p t a b g = record {
  groups = g.groups ++ last ∷ [];
  together = flat_map-append (λ q. q.shell ∷ q.holes) g.groups (last ∷ []) ∙ ap (λ u. members g.groups ++ u) (append-nil (w ∷ take n (drop (at + 1) ws))) ∙ ap (λ u. u ++ w ∷ take n (drop (at + 1) ws)) g.together
      ∙ ap (λ u. take at ws ++ u ∷ take n (drop (at + 1) ws)) (sym is) ∙ take_more ws at n (at + 1) (at + (1 + n)) w h (next at) (sum at n) ∙ ap (λ u. take (at + (1 + u)) ws) (sym e);
  shells = All-append (λ q. hole q.shell ≡ false) g.groups (last ∷ []) g.shells (All-cons (λ q. hole q.shell ≡ false) last [] (begins_at hole ws at w h is b) (All-nil (λ q. hole q.shell ≡ false)));
  holes = All-append (λ q. All (λ u. hole u ≡ true) q.holes) g.groups (last ∷ []) g.holes (All-cons (λ q. All (λ u. hole u ≡ true) q.holes) last [] a (All-nil (λ q. All (λ u. hole u ≡ true) q.holes)));
  are_shapes = k ∙ ap (λ u. u ++ v ∷ []) g.are_shapes ∙ ap (λ u. map (shape_of f) g.groups ++ u ∷ []) same ∙ sym (map-append (shape_of f) g.groups (last ∷ []));
}
  where
    last : Group W
    last = record { shell = w; holes = take n (drop (at + 1) ws) }

    same : v ≡ shape_of f last
    same = λ i. record { shell = p i; holes = t i }

    next : (at : ℕ) → at + 1 ≡ suc at
    next at = omega arith

    sum : (at n : ℕ) → at + (1 + n) ≡ at + suc n
    sum at n = omega arith

pub shell_next : {W : Type 0} (hole : W → Bool) (ws : List W) (at n m : ℕ) → m ≡ n → BeginsWithShell hole (drop ((at + 1) + n) ws) → BeginsWithShell hole (drop (at + (1 + m)) ws)
shell_next {W} hole ws at n m e b = let P : ℕ → Type 0 = λ k. BeginsWithShell hole (drop k ws) in subst P (sums at n m e) b
  where
    sums : (at n m : ℕ) → m ≡ n → (at + 1) + n ≡ at + (1 + m)
    sums at n m e = omega arith
