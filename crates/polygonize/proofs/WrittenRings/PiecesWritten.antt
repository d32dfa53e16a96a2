-- The pieces of a ring, taken from the end, and their entries, written at the end.
use Rattle.std.proofs.Common.{◌≡◌, ℕ, zero, suc, ◌+◌, ◌<◌, List, [], ◌∷◌, ◌++◌, length, refl, sym, ◌∙◌, ap, subst, inl, inr, Bool, true, false, Option, get_or, append_assoc, length-append, arith}
use Rattle.std.specs.Prelude.{◌||◌, ◌==◌, ◌↔◌, is_some, not, unwrap_or}
use Rattle.std.proofs.lemmas.Bool.Decides.{nat_tests}
use Rattle.geom.proofs.Lists.{In, contains_in, in_append, in_contains, in_back, in_front}
use Rattle.std.proofs.lemmas.List.{append-nil, get_or_default}
use Rattle.polygonize.specs.declared.written.Opening.{Opening}
use Rattle.polygonize.specs.Owning.{ArePiecesWritten, AreWrittenUnder, IsPieceWritten}
use Rattle.polygonize.specs.Placed.{PlacedRing, opening_of}
use Rattle.polygonize.specs.Written.{backward}

-- the entries of pieces, which are numbered from i on
abbrev pub AreEntered : Opening → Bool → ℕ → ℕ → List (List ℕ) → List PlacedRing → Type 0
AreEntered shell owned first i [] [] = Unit {0}
AreEntered shell owned first i [] (e ∷ es) = ⊥
AreEntered shell owned first i (p ∷ ps) [] = ⊥
AreEntered shell owned first i (p ∷ ps) (e ∷ es) = IsPieceWritten shell owned first i p e × AreEntered shell owned first (suc i) ps es

-- the pieces behind those that are left have entries, the last one first
pub record Entering (shell : Opening) (owned : Bool) (first : ℕ) (pieces left : List (List ℕ)) (old new : List PlacedRing) : Type 0 where
  pub done : List (List ℕ)
  pub entries : List PlacedRing
  pub parts : pieces ≡ left ++ done
  pub each : AreEntered shell owned first (length left) done entries
  pub appended : new ≡ old ++ backward entries

-- a piece is a shell itself where it is the first one of a ring without an owner
pub shell_itself : (owned : Bool) (k first : ℕ) (b : Bool) → b ≡ (owned || not (k == first)) → (b ≡ false) ↔ ((owned ≡ false) × (k ≡ first))
shell_itself true k first b e = ((λ h. absurd (let z : true ≡ false = sym e ∙ h in cc)), (λ h. absurd (let z : true ≡ false = h.0 in cc)))
shell_itself false k first b e = ((λ h. (refl, (let z : not (k == first) ≡ false = sym e ∙ h in grind (arith, nat_tests)))), (λ h. let z = h.1 in e ∙ (grind (arith, nat_tests))))

pub none_entered : (shell : Opening) (owned : Bool) (first : ℕ) (pieces : List (List ℕ)) (old : List PlacedRing) → Entering shell owned first pieces pieces old old
none_entered shell owned first pieces old = record { done = []; entries = []; parts = sym (append-nil pieces); each = tt; appended = sym (append-nil old) }

one_entered : (shell : Opening) (owned : Bool) (first : ℕ) (pieces left rest : List (List ℕ)) (old new : List PlacedRing) (piece : List ℕ) (e : PlacedRing) → left ≡ rest ++ piece ∷ [] → IsPieceWritten shell owned first (length rest) piece e
    → Entering shell owned first pieces left old new → Entering shell owned first pieces rest old (new ++ e ∷ [])
one_entered shell owned first pieces left rest old new piece e q i a = record {
  done = piece ∷ a.done;
  entries = e ∷ a.entries;
  parts = a.parts ∙ ap (λ x. x ++ a.done) q ∙ append_assoc rest (piece ∷ []) a.done;
  each = (i, (let P : ℕ → Type 0 = λ n. AreEntered shell owned first n a.done a.entries in subst P longer a.each));
  appended = ap (λ x. x ++ e ∷ []) a.appended ∙ append_assoc old (backward a.entries) (e ∷ []);
}
  where
    longer : length left ≡ suc (length rest)
    longer = ap length q ∙ length-append rest (piece ∷ []) ∙ (omega arith)

pub step_entered : (shell : Opening) (owned : Bool) (first : ℕ) (pieces left rest : List (List ℕ)) (old new more : List PlacedRing) (piece : List ℕ) (w : PlacedRing) → left ≡ rest ++ piece ∷ [] → more ≡ new ++ w ∷ [] → IsPieceWritten shell owned first (length rest) piece w
    → Entering shell owned first pieces left old new → Entering shell owned first pieces rest old more
step_entered shell owned first pieces left rest old new more piece w e q i a = let P : List PlacedRing → Type 0 = Entering shell owned first pieces rest old in subst P (sym q) (one_entered shell owned first pieces left rest old new piece w e i a)

-- none is left
pub all_entered : (shell : Opening) (owned : Bool) (first : ℕ) (pieces : List (List ℕ)) (old new : List PlacedRing) (a : Entering shell owned first pieces [] old new) → AreEntered shell owned first 0 pieces a.entries
all_entered shell owned first pieces old new a = let P : List (List ℕ) → Type 0 = λ t. AreEntered shell owned first 0 t a.entries in subst P (sym a.parts) a.each

-- ---- in the list of entries
in_backward : {X : Type 0} (xs : List X) (x : X) → In x xs → In x (backward xs)
in_backward [] x i = i
in_backward (y ∷ ys) x (inl e) = in_back (backward ys) (y ∷ []) x (inl e)
in_backward (y ∷ ys) x (inr i) = in_front (backward ys) (y ∷ []) x (in_backward ys x i)

of_backward : {X : Type 0} (xs : List X) (x : X) → In x (backward xs) → In x xs
of_backward [] x i = i
of_backward (y ∷ ys) x i = elim (in_append (backward ys) (y ∷ []) x i) [
  | inl j ↦ inr (of_backward ys x j)
  | inr j ↦ elim j [ inl e ↦ inl e | inr n ↦ absurd n ]
]

-- which piece an entry is of, and the entry of a piece
entry_of : (shell : Opening) (owned : Bool) (first i : ℕ) (ps : List (List ℕ)) (es : List PlacedRing) → AreEntered shell owned first i ps es → (w : PlacedRing) → In w es → (k : ℕ) × (k < length ps) × IsPieceWritten shell owned first (i + k) (get_or ps k []) w
entry_of shell owned first i [] [] a w j = absurd j
entry_of shell owned first i [] (e ∷ es) a w j = absurd a
entry_of shell owned first i (p ∷ ps) [] a w j = absurd a
entry_of shell owned first i (p ∷ ps) (e ∷ es) a w (inl q) = (0, omega arith, (let P : PlacedRing → Type 0 = IsPieceWritten shell owned first (i + 0) p in subst P q (let Q : ℕ → Type 0 = λ n. IsPieceWritten shell owned first n p e in subst Q (same i) a.0)))
  where
    same : (i : ℕ) → i ≡ i + 0
    same i = omega arith
entry_of shell owned first i (p ∷ ps) (e ∷ es) a w (inr j) = let r = entry_of shell owned first (suc i) ps es a.1 w j in
    (suc r.0, (let l = r.1 in omega arith), (let Q : ℕ → Type 0 = λ n. IsPieceWritten shell owned first n (get_or ps r.0 []) w in subst Q (same i r.0) r.2))
  where
    same : (i k : ℕ) → suc i + k ≡ i + suc k
    same i k = omega arith

piece_of : (shell : Opening) (owned : Bool) (first i : ℕ) (ps : List (List ℕ)) (es : List PlacedRing) → AreEntered shell owned first i ps es → (k : ℕ) → k < length ps → (w : PlacedRing) × In w es × IsPieceWritten shell owned first (i + k) (get_or ps k []) w
piece_of shell owned first i [] es a k h = absurd (omega arith)
piece_of shell owned first i (p ∷ ps) [] a k h = absurd a
piece_of shell owned first i (p ∷ ps) (e ∷ es) a zero h = (e, inl refl, (let Q : ℕ → Type 0 = λ n. IsPieceWritten shell owned first n p e in subst Q (same i) a.0))
  where
    same : (i : ℕ) → i ≡ i + 0
    same i = omega arith
piece_of shell owned first i (p ∷ ps) (e ∷ es) a (suc k) h = let r = piece_of shell owned first (suc i) ps es a.1 k (omega (arith, h)) in
    (r.0, inr r.1, (let Q : ℕ → Type 0 = λ n. IsPieceWritten shell owned first n (get_or ps k []) r.0 in subst Q (same i k) r.2))
  where
    same : (i k : ℕ) → suc i + k ≡ i + suc k
    same i k = omega arith

-- so are the pieces written, wherever their entries stand
pieces_under : (shell : Opening) (owned : Bool) (first : ℕ) (pieces : List (List ℕ)) (entries old new : List PlacedRing) → AreEntered shell owned first 0 pieces entries → new ≡ old ++ backward entries → AreWrittenUnder shell owned first pieces old new
pieces_under shell owned first pieces entries old new a e = record {
  kept = λ w c. in_contains new w (let P : List PlacedRing → Type 0 = In w in subst P (sym e) (in_front old (backward entries) w (contains_in old w c)));
  only = λ w c. elim (in_append old (backward entries) w (let P : List PlacedRing → Type 0 = In w in subst P e (contains_in new w c))) [
    | inl i ↦ inl (in_contains old w i)
    | inr i ↦ let r = entry_of shell owned first 0 pieces entries a w (of_backward entries w i) in inr (r.0, r.1, plain r.0 w r.2)
  ];
  each = λ k h. let r = piece_of shell owned first 0 pieces entries a k h in
      (r.0, in_contains new r.0 (let P : List PlacedRing → Type 0 = In r.0 in subst P (sym e) (in_back old (backward entries) r.0 (in_backward entries r.0 r.1))), plain k r.0 r.2);
}
  where
    zero_plus : (k : ℕ) → 0 + k ≡ k
    zero_plus k = omega arith

    plain : (k : ℕ) (w : PlacedRing) → IsPieceWritten shell owned first (0 + k) (get_or pieces k []) w → IsPieceWritten shell owned first k (get_or pieces k []) w
    plain k w i = let P : ℕ → Type 0 = λ n. IsPieceWritten shell owned first n (get_or pieces k []) w in subst P (zero_plus k) i

no_items : {X : Type 0} (xs : List X) → length xs ≡ 0 → xs ≡ []
no_items [] h = refl
no_items (x ∷ xs) h = absurd (omega arith)

pub all_pieces : (pieces left : List (List ℕ)) (owner : Option Opening) (shell : Opening) (first : ℕ) (old new : List PlacedRing) (v p : List ℕ) → first < length pieces → v ≡ get_or pieces first v → p ≡ v → shell ≡ unwrap_or owner (opening_of p) → length left ≡ 0
    → Entering shell (is_some owner) first pieces left old new → ArePiecesWritten first pieces owner shell old new
all_pieces pieces left owner shell first old new v p h k q s z a = record {
  shell_is = s ∙ ap (λ t. unwrap_or owner (opening_of t)) (q ∙ k ∙ get_or_default pieces first v [] h);
  all = pieces_under shell (is_some owner) first pieces b.entries old new (all_entered shell (is_some owner) first pieces old new b) b.appended;
}
  where
    b : Entering shell (is_some owner) first pieces [] old new
    b = let P : List (List ℕ) → Type 0 = λ t. Entering shell (is_some owner) first pieces t old new in subst P (no_items left z) a
