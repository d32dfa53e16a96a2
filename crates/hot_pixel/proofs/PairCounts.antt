-- Lines, and how many pairs of them meet.
use Rattle.std.proofs.Common.{◌≡◌, inl, inr, ℕ, ◌+◌, ◌<◌, ◌≤◌, List, [], ◌∷◌, ◌++◌, Bool, true, false, cond, refl, sym, ◌∙◌, ap, arith, subst, length, get_or, take, ⊎_elim}
use Rattle.std.proofs.Math.IntN.{ℤ}
use Rattle.std.specs.Prelude.{Contains, Option, Some, ◌&&◌, int_le, count_by, filter, slice_get}
use Rattle.std.specs.Int.{int_min, int_max}
use Rattle.std.specs.List.{filter_map, items_where_true, sum_by}
use Rattle.std.specs.List.Retain.{IsFiltered}
use Rattle.std.specs.List.Sorted.{IsPermutation}
use Rattle.std.proofs.lemmas.Int.{ints, clamps}
use Rattle.std.proofs.lemmas.List.{take_more}
use Rattle.std.proofs.lemmas.List.Elements.{filter_map-append}
use Rattle.std.proofs.lemmas.List.Sums.{sum_by-cons, sum_by_push}
use Rattle.std.proofs.lemmas.List.Sorted.{sum_by-IsPermutation, length_permutation}
use Rattle.geom.specs.declared.point.Pt.{Pt}
use Rattle.geom.specs.declared.segment.Seg.{Seg}
use Rattle.geom.specs.declared.edge.Edge.{Edge}
use Rattle.crossing.specs.Boxes.{spans_meet, boxes_meet}
use Rattle.hot_region.specs.Candidates.{chosen}
use Rattle.hot_pixel.specs.Pairs.{lines_meet, line_pairs, meeting_pairs}
use Rattle.hot_pixel.specs.SegmentLines.{AreEachLine, AreLines}
use Rattle.hot_region.specs.Lines.{IsLine}
use Rattle.hot_region.proofs.ListLaws.{in_cons, from_cons, here, none_in}

-- ---- the lines of the chosen segments
pub chosen_more : (segments : List Seg) (numbers : List ℕ) (i k : ℕ) (s : Seg) → i < length numbers → k ≡ get_or numbers i k → slice_get segments k ≡ Some s → chosen segments (take (i + 1) numbers) ≡ chosen segments (take i numbers) ++ s ∷ []
chosen_more segments numbers i k s l e h =
    let f : take (i + 1) numbers ≡ take i numbers ++ k ∷ [] = take_more numbers i k l ∙ ap (λ (n : ℕ). take i numbers ++ n ∷ []) (sym e) in
    ap (λ (ns : List ℕ). chosen segments ns) f ∙ filter_map-append (λ n. slice_get segments n) (take i numbers) (k ∷ []) ∙ ap (λ (ss : List Seg). chosen segments (take i numbers) ++ ss) (one (slice_get segments k) h)
  where
    one : (o : Option Seg) → o ≡ Some s → filter_map (λ (n : ℕ). o) (0 ∷ []) ≡ s ∷ []
    one o g = rw g refl

pub each_push : (ss : List Seg) (es : List Edge) (s : Seg) (e : Edge) → AreEachLine ss es → IsLine e s → AreEachLine (ss ++ s ∷ []) (es ++ e ∷ [])
each_push [] [] s e h k = (k, tt)
each_push [] (f ∷ es) s e h k = absurd h
each_push (t ∷ ss) [] s e h k = absurd h
each_push (t ∷ ss) (f ∷ es) s e h k = (h.0, each_push ss es s e h.1 k)

pub lines_only : (ss : List Seg) (es : List Edge) → AreEachLine ss es → (e : Edge) → Contains es e → (s : Seg) × Contains ss s × IsLine e s
lines_only [] [] h e c = absurd (none_in e c)
lines_only [] (f ∷ es) h e c = absurd h
lines_only (t ∷ ss) [] h e c = absurd h
lines_only (t ∷ ss) (f ∷ es) h e c = ⊎_elim
    (λ p. (t, here t ss, subst (λ (g : Edge). IsLine g t) p h.0))
    (λ k. let r = lines_only ss es h.1 e k in (r.0, in_cons t ss r.0 r.1, r.2))
    (from_cons f es e c)

pub lines_all : (ss : List Seg) (es : List Edge) → AreEachLine ss es → (s : Seg) → Contains ss s → (e : Edge) × Contains es e × IsLine e s
lines_all [] [] h s c = absurd (none_in s c)
lines_all [] (f ∷ es) h s c = absurd h
lines_all (t ∷ ss) [] h s c = absurd h
lines_all (t ∷ ss) (f ∷ es) h s c = ⊎_elim
    (λ p. (f, here f es, subst (λ (u : Seg). IsLine f u) p h.0))
    (λ k. let r = lines_all ss es h.1 s k in (r.0, in_cons f es r.0 r.1, r.2))
    (from_cons t ss s c)

pub lines_are : (ss : List Seg) (es zs : List Edge) → AreEachLine ss es → ((e : Edge) → (Contains zs e → Contains es e) × (Contains es e → Contains zs e)) → AreLines ss zs
lines_are ss es zs h same = record {
  only = λ e c. lines_only ss es h e ((same e).0 c);
  all = λ s c. let r = lines_all ss es h s c in (r.0, (same r.0).1 r.1, r.2);
}

-- ---- boxes of lines
span_turn : (a b c d : ℤ) → spans_meet a b c d ≡ spans_meet b a c d
unfolding spans_meet
span_turn a b c d = ap (λ (z : ℤ). int_le z (int_max c d) && int_le (int_min c d) (int_max a b)) (least a b) ∙ ap (λ (z : ℤ). int_le (int_min b a) (int_max c d) && int_le (int_min c d) z) (greatest a b)
  where
    least : (a b : ℤ) → int_min a b ≡ int_min b a
    least a b = omega (arith, ints, clamps)

    greatest : (a b : ℤ) → int_max a b ≡ int_max b a
    greatest a b = omega (arith, ints, clamps)

and_comm : (a b : Bool) → (a && b) ≡ (b && a)
and_comm true true = refl
and_comm true false = refl
and_comm false true = refl
and_comm false false = refl

span_swap : (a b c d : ℤ) → spans_meet a b c d ≡ spans_meet c d a b
unfolding spans_meet
span_swap a b c d = and_comm (int_le (int_min a b) (int_max c d)) (int_le (int_min c d) (int_max a b))

span_itself : (a b : ℤ) → spans_meet a b a b ≡ true
unfolding spans_meet
span_itself a b = rw (up a b) refl
  where
    up : (a b : ℤ) → int_le (int_min a b) (int_max a b) ≡ true
    up a b = sym (omega (arith, ints, clamps))

pub meet_swap : (e f : Edge) → lines_meet e f ≡ lines_meet f e
meet_swap e f = ap (λ (x : Bool). x && spans_meet e.p.y e.q.y f.p.y f.q.y) (span_swap e.p.x e.q.x f.p.x f.q.x) ∙ ap (λ (x : Bool). spans_meet f.p.x f.q.x e.p.x e.q.x && x) (span_swap e.p.y e.q.y f.p.y f.q.y)

pub meet_itself : (e : Edge) → lines_meet e e ≡ true
meet_itself e = rw (span_itself e.p.x e.q.x, span_itself e.p.y e.q.y) refl

-- boxes of segments by their ends
abbrev ends_meet : Pt → Pt → Pt → Pt → Bool
ends_meet a b c d = spans_meet a.x b.x c.x d.x && spans_meet a.y b.y c.y d.y

ends_turn : (a b c d : Pt) → ends_meet a b c d ≡ ends_meet b a c d
ends_turn a b c d = ap (λ (x : Bool). x && spans_meet a.y b.y c.y d.y) (span_turn a.x b.x c.x d.x) ∙ ap (λ (x : Bool). spans_meet b.x a.x c.x d.x && x) (span_turn a.y b.y c.y d.y)

ends_swap : (a b c d : Pt) → ends_meet a b c d ≡ ends_meet c d a b
ends_swap a b c d = ap (λ (x : Bool). x && spans_meet a.y b.y c.y d.y) (span_swap a.x b.x c.x d.x) ∙ ap (λ (x : Bool). spans_meet c.x d.x a.x b.x && x) (span_swap a.y b.y c.y d.y)

first_line : (e : Edge) (s : Seg) (c d : Pt) → IsLine e s → ends_meet e.p e.q c d ≡ ends_meet s.a s.b c d
first_line e s c d (inl (h, k)) = ap (λ (p : Pt). ends_meet p e.q c d) h ∙ ap (λ (p : Pt). ends_meet s.a p c d) k
first_line e s c d (inr (h, k)) = ap (λ (p : Pt). ends_meet p e.q c d) h ∙ ap (λ (p : Pt). ends_meet s.b p c d) k ∙ ends_turn s.b s.a c d

pub meet_lines : (e f : Edge) (s t : Seg) → IsLine e s → IsLine f t → lines_meet e f ≡ boxes_meet s t
meet_lines e f s t h k = first_line e s f.p f.q h ∙ ends_swap s.a s.b f.p f.q ∙ first_line f t s.a s.b k ∙ ends_swap t.a t.b s.a s.b

-- ---- pairs
one : Bool → ℕ
one b = cond b 1 0

count_each : (e : Edge) (s : Seg) (ss : List Seg) (es : List Edge) → IsLine e s → AreEachLine ss es → count_by (lines_meet e) es ≡ count_by (boxes_meet s) ss
count_each e s [] [] h k = refl
count_each e s [] (f ∷ es) h k = absurd k
count_each e s (t ∷ ss) [] h k = absurd k
count_each e s (t ∷ ss) (f ∷ es) h k =
    let a = sum_by-cons (λ x. cond {A = ℕ} (lines_meet e x) 1 0) f es in
    let b = sum_by-cons (λ x. cond {A = ℕ} (boxes_meet s x) 1 0) t ss in
    let c : cond {A = ℕ} (lines_meet e f) 1 0 ≡ cond {A = ℕ} (boxes_meet s t) 1 0 = ap (λ (x : Bool). cond {A = ℕ} x 1 0) (meet_lines e f s t h k.0) in
    let d = count_each e s ss es h k.1 in
    a ∙ ap (λ (n : ℕ). n + count_by (lines_meet e) es) c ∙ ap (λ (n : ℕ). cond {A = ℕ} (boxes_meet s t) 1 0 + n) d ∙ sym b

pub pairs_each : (ss : List Seg) (es : List Edge) → AreEachLine ss es → line_pairs es ≡ meeting_pairs ss
pairs_each [] [] h = refl
pairs_each [] (e ∷ es) h = absurd h
pairs_each (s ∷ ss) [] h = absurd h
pairs_each (s ∷ ss) (e ∷ es) h = ap (λ (n : ℕ). n + line_pairs es) (count_each e s ss es h.0 h.1) ∙ ap (λ (n : ℕ). count_by (boxes_meet s) ss + n) (pairs_each ss es h.1)

-- one more line at the end
pub pairs_push : (es : List Edge) (e : Edge) → line_pairs (es ++ e ∷ []) ≡ line_pairs es + count_by (lines_meet e) es
pairs_push [] e = refl
pairs_push (f ∷ es) e =
    let a = sum_by_push (λ x. cond {A = ℕ} (lines_meet f x) 1 0) es e in
    let b = pairs_push es e in
    let c = sum_by-cons (λ x. cond {A = ℕ} (lines_meet e x) 1 0) f es in
    let d : cond {A = ℕ} (lines_meet f e) 1 0 ≡ cond {A = ℕ} (lines_meet e f) 1 0 = ap (λ (t : Bool). cond {A = ℕ} t 1 0) (meet_swap f e) in
    omega arith

-- twice the pairs, and each line with itself
abbrev total : List Edge → ℕ
total es = sum_by (λ e. count_by (lines_meet e) es) es

same_sum : (f g : Edge → ℕ) → ((e : Edge) → f e ≡ g e) → (es : List Edge) → sum_by f es ≡ sum_by g es
same_sum f g h [] = refl
same_sum f g h (e ∷ es) = let a = sum_by-cons f e es in let b = sum_by-cons g e es in let c = h e in let d = same_sum f g h es in omega arith

sum_both : (f g k : Edge → ℕ) → ((e : Edge) → f e ≡ g e + k e) → (es : List Edge) → sum_by f es ≡ sum_by g es + sum_by k es
sum_both f g k h [] = refl
sum_both f g k h (e ∷ es) = let a = sum_by-cons f e es in let b = sum_by-cons g e es in let c = sum_by-cons k e es in let d = h e in let i = sum_both f g k h es in omega arith

total_is : (es : List Edge) → total es ≡ line_pairs es + line_pairs es + length es
total_is [] = refl
total_is (e ∷ es) =
    let a = sum_by-cons (λ x. count_by (lines_meet x) (e ∷ es)) e es in
    let b = sum_by-cons (λ x. cond {A = ℕ} (lines_meet e x) 1 0) e es in
    let c : cond {A = ℕ} (lines_meet e e) 1 0 ≡ 1 = rw (meet_itself e) refl in
    let d = sum_both (λ x. count_by (lines_meet x) (e ∷ es)) (λ x. cond {A = ℕ} (lines_meet e x) 1 0) (λ x. count_by (lines_meet x) es) (λ x. sum_by-cons (λ y. cond {A = ℕ} (lines_meet x y) 1 0) e es ∙ ap (λ (t : Bool). cond {A = ℕ} t 1 0 + count_by (lines_meet x) es) (meet_swap x e)) es in
    let f = total_is es in
    omega arith

pairs_permuted : (xs ys : List Edge) → IsPermutation xs ys → line_pairs ys ≡ line_pairs xs
pairs_permuted xs ys h =
    let a = sum_by-IsPermutation (λ e. count_by (lines_meet e) ys) xs ys h in
    let b = same_sum (λ e. count_by (lines_meet e) ys) (λ e. count_by (lines_meet e) xs) (λ e. sum_by-IsPermutation (λ x. cond {A = ℕ} (lines_meet e x) 1 0) xs ys h) xs in
    let c = total_is xs in
    let d = total_is ys in
    let l = length_permutation xs ys h in
    halved (line_pairs xs) (line_pairs ys) (length xs) (length ys) (total xs) (total ys) (a ∙ b) c d l
  where
    halved : (p q l m s t : ℕ) → t ≡ s → s ≡ p + p + l → t ≡ q + q + m → m ≡ l → q ≡ p
    halved p q l m s t e f g h = omega arith

pub count_kept : {X : Type 0} (p : X → Bool) (bs : List Bool) (xs : List X) → count_by p (items_where_true bs xs) ≤ count_by p xs
count_kept p [] xs = omega arith
count_kept p (b ∷ bs) [] = omega arith
count_kept p (true ∷ bs) (x ∷ xs) = let a = sum_by-cons (λ y. cond {A = ℕ} (p y) 1 0) x xs in let b = sum_by-cons (λ y. cond {A = ℕ} (p y) 1 0) x (items_where_true bs xs) in let c = count_kept p bs xs in omega arith
count_kept p (false ∷ bs) (x ∷ xs) = let a = sum_by-cons (λ y. cond {A = ℕ} (p y) 1 0) x xs in let c = count_kept p bs xs in omega arith

pub count_filter : {X : Type 0} (p q : X → Bool) (xs : List X) → count_by p (filter q xs) ≤ count_by p xs
count_filter p q [] = omega arith
count_filter {X = X} p q (x ∷ xs) = by_test (q x) (count_filter p q xs)
  where
    by_test : (b : Bool) → count_by p (filter q xs) ≤ count_by p xs → count_by p (cond b (x ∷ filter q xs) (filter q xs)) ≤ count_by p (x ∷ xs)
    by_test true h = let a = sum_by-cons (λ y. cond {A = ℕ} (p y) 1 0) x xs in let b = sum_by-cons (λ y. cond {A = ℕ} (p y) 1 0) x (filter q xs) in omega arith
    by_test false h = let a = sum_by-cons (λ y. cond {A = ℕ} (p y) 1 0) x xs in omega arith

pairs_kept : (bs : List Bool) (es : List Edge) → line_pairs (items_where_true bs es) ≤ line_pairs es
pairs_kept [] es = omega arith
pairs_kept (b ∷ bs) [] = omega arith
pairs_kept (true ∷ bs) (e ∷ es) = let a = count_kept (lines_meet e) bs es in let b = pairs_kept bs es in omega arith
pairs_kept (false ∷ bs) (e ∷ es) = let b = pairs_kept bs es in omega arith

-- sorting doesn't change the number of pairs, and leaving out doesn't raise it
pub pairs_fewer : {P : Type 0} (R : P → Edge → Bool → P → Type 0) (p : P) (xs ys zs : List Edge) → IsPermutation xs ys → IsFiltered R p ys zs → line_pairs zs ≤ line_pairs xs
pairs_fewer R p xs ys zs h k = let a = pairs_permuted xs ys h in let b = pairs_kept k.0 ys in let c : line_pairs zs ≡ line_pairs (items_where_true k.0 ys) = ap line_pairs k.4 in omega arith
