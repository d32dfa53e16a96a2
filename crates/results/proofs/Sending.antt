-- One more `write` of a text.
use Rattle.std.proofs.Common.{◌≡◌, ◌∙◌, ◌+◌, ◌-◌, ◌<◌, ℕ, zero, suc, get_or, flat_map, subst, Bool, false, Option, Some, None, List, [], ◌∷◌, ◌++◌, length, take, drop, append_assoc, refl, ap, sym, arith}
use Rattle.std.proofs.Math.Seq.{take-add}
use Rattle.std.proofs.lemmas.List.{take_rest}
use Rattle.std.proofs.lemmas.Grind.{flat_map-append}
use Rattle.std.proofs.lemmas.List.{length-append}
use Rattle.results.specs.Sinks.{SentBeginning, SentUnfinished, SinkState, bytes_after, mark_after}

told_twice : (t : Option (List ℕ)) (xs ys : List ℕ) → bytes_after (bytes_after t xs) ys ≡ bytes_after t (xs ++ ys)
told_twice None xs ys = refl
told_twice (Some before) xs ys = ap (λ (zs : List ℕ). Some zs) (append_assoc before xs ys)

-- the first n of the rest behind the first i
pub told_more : (old between new : Option (List ℕ)) (text : List ℕ) (i n : ℕ) → between ≡ bytes_after old (take i text)
    → new ≡ bytes_after between (take n (take (length text - i) (drop i text))) → new ≡ bytes_after old (take (i + n) text)
told_more old between new text i n e f =
    f ∙ ap (λ (t : Option (List ℕ)). bytes_after t (take n (take (length text - i) (drop i text)))) e
    ∙ ap (λ (zs : List ℕ). bytes_after (bytes_after old (take i text)) (take n zs)) (take_rest text i)
    ∙ told_twice old (take i text) (take n (drop i text))
    ∙ ap (bytes_after old) (sym (take-add i n text))

-- whoever took something is unsettled
pub marked_more : (before : Bool) (text : List ℕ) → 0 < length text → mark_after before text ≡ false
marked_more before [] some = absurd (omega (arith, some))
marked_more before (_ ∷ _) some = refl

-- the first n of ys stand behind xs
pub begun_behind : (old between new : SinkState) (xs ys zs : List ℕ) → SentUnfinished old between xs → SentBeginning between new ys → SentBeginning old new (xs ++ (ys ++ zs))
begun_behind old between new xs ys zs h b = record {
  n = length xs + b.n;
  proper = omega (arith, b.proper, length-append xs (ys ++ zs), length-append ys zs);
  unsettled = b.unsettled;
  beginning_taken = b.beginning_taken ∙ ap (λ (t : Option (List ℕ)). bytes_after t (take b.n ys)) h.all_taken ∙ told_twice old.taken xs (take b.n ys)
      ∙ ap (bytes_after old.taken) (sym (front_of xs (ys ++ zs) b.n (length xs + b.n) refl ∙ ap (λ (l : List ℕ). xs ++ l) (front_within ys zs b.n b.proper)));
}
  where
    front_of : (xs ys : List ℕ) (n m : ℕ) → m ≡ length xs + n → take m (xs ++ ys) ≡ xs ++ take n ys
    front_of [] ys n m e = ap (λ (k : ℕ). take k ys) (let goal : m ≡ n = omega (arith, e) in goal)
    front_of (x ∷ xs) ys n zero e = absurd (omega (arith, e))
    front_of (x ∷ xs) ys n (suc m) e = ap (λ (l : List ℕ). x ∷ l) (front_of xs ys n m (omega (arith, e)))

    front_within : (ys zs : List ℕ) (n : ℕ) → n < length ys → take n (ys ++ zs) ≡ take n ys
    front_within [] zs n l = absurd (omega arith)
    front_within (y ∷ ys) zs zero l = refl
    front_within (y ∷ ys) zs (suc n) l = ap (λ (t : List ℕ). y ∷ t) (front_within ys zs n (omega (arith, l)))

-- a place parts a list
parted : {X : Type 0} (xs : List X) (i : ℕ) (x : X) → i < length xs → x ≡ get_or xs i x → xs ≡ take i xs ++ (x ∷ drop (suc i) xs)
parted [] i x l is = absurd (omega arith)
parted {X} (y ∷ xs) zero x l is = ap (λ (z : X). z ∷ xs) (sym is)
parted {X} (y ∷ xs) (suc i) x l is = ap (λ (zs : List X). y ∷ zs) (parted xs i x (omega (arith, l)) is)

-- a beginning of a part is a beginning of all parts
pub begun_part : {X : Type 0} (items_of : X → List ℕ) (old between new : SinkState) (parts : List X) (i : ℕ) (x : X) → i < length parts → x ≡ get_or parts i x
    → SentUnfinished old between (flat_map items_of (take i parts)) → SentBeginning between new (items_of x) → SentBeginning old new (flat_map items_of parts)
begun_part items_of old between new parts i x l is h b =
    subst (λ (text : List ℕ). SentBeginning old new text) (sym (ap (flat_map items_of) (parted parts i x l is) ∙ flat_map-append items_of (take i parts) (x ∷ drop (suc i) parts)))
    (begun_behind old between new (flat_map items_of (take i parts)) (items_of x) (flat_map items_of (drop (suc i) parts)) h b)
