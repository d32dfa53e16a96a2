-- Lists of boxes, segments or edges, by their pairs of points.
use Rattle.std.proofs.Common.{◌≡◌, ℕ, zero, suc, List, [], ◌∷◌, ◌++◌, map, get_or, refl, sym, ap, ap₂, ◌∙◌, subst}
use Rattle.std.proofs.lemmas.List.{map-append}
use Rattle.std.specs.Prelude.{Result, Ok, Err, OnOk, OnErr}
use Rattle.lane_tests.specs.Columns.{Ends}

-- two lists with the same pairs are equal, where a pair tells its item
pub same_by : {X : Type 0} (f : X → Ends) → ((x y : X) → f x ≡ f y → x ≡ y) → (xs ys : List X) → map f xs ≡ map f ys → xs ≡ ys
same_by f told [] [] e = refl
same_by f told [] (y ∷ ys) e = cc
same_by f told (x ∷ xs) [] e = cc
same_by f told (x ∷ xs) (y ∷ ys) e =
    let first : f x ≡ f y = cc in
    let rest : map f xs ≡ map f ys = cc in
    ap₂ (λ z zs. z ∷ zs) (told x y first) (same_by f told xs ys rest)

-- lists of items that are kept by their pairs: after a push of columns they are those of before and one more
module _ {X : Type 0} (f : X → Ends) (tell : (x y : X) → f x ≡ f y → x ≡ y) (Are : List Ends → Type 0) (items : (es : List Ends) → Are es → List X) (same : (es : List Ends) (h : Are es) → map f (items es h) ≡ es) where
  pub list_grown : (old now : List Ends) (h : Are old) (k : Are now) (xs : List X) (x : X) → items old h ≡ xs → now ≡ old ++ f x ∷ [] → items now k ≡ xs ++ x ∷ []
  list_grown old now h k xs x e g = same_by f tell (items now k) (xs ++ x ∷ []) (same now k ∙ g ∙ ap (λ ps. ps ++ f x ∷ []) (sym (same old h) ∙ ap (map f) e) ∙ sym (map-append f xs (x ∷ [])))

  pub list_kept : (old now : List Ends) (h : Are old) (k : Are now) (xs : List X) → items old h ≡ xs → now ≡ old → items now k ≡ xs
  list_kept old now h k xs e g = same_by f tell (items now k) xs (same now k ∙ g ∙ sym (same old h) ∙ ap (map f) e)

-- what holds of columns holds of them unchanged
pub still : (P : List Ends → Type 0) (old now : List Ends) → P old → now ≡ old → P now
still P old now h e = subst P (sym e) h

pub on_ok : {T E : Type 0} (r : Result T E) {P Q : Type 0} → (P → Q) → OnOk r P → OnOk r Q
on_ok (Ok x) f h = f h
on_ok (Err e) f h = tt

pub on_err : {T E : Type 0} (r : Result T E) {P Q : Type 0} → (P → Q) → OnErr r P → OnErr r Q
on_err (Ok x) f h = tt
on_err (Err e) f h = f h

-- what follows from each of the two outcomes
pub either_way : {T E : Type 0} (r : Result T E) {P Q R : Type 0} → (P → R) → (Q → R) → OnOk r P → OnErr r Q → R
either_way (Ok x) f g h k = f h
either_way (Err e) f g h k = g k

pub on_err_all : {T E : Type 0} (r : Result T E) {P : Type 0} → P → OnErr r P
on_err_all (Ok x) h = tt
on_err_all (Err e) h = h

-- what holds of each item, and of the one that stands where there is none
first_or_later : {X : Type 0} (d : X) (P : X → Type 0) (x : X) (xs : List X) → P x → ((k : ℕ) → P (get_or xs k d)) → (k : ℕ) → P (get_or (x ∷ xs) k d)
first_or_later d P x xs h r zero = h
first_or_later d P x xs h r (suc k) = r k

pub each_push : {X : Type 0} (d : X) (P : X → Type 0) (xs : List X) (x : X) → ((k : ℕ) → P (get_or xs k d)) → P x → (k : ℕ) → P (get_or (xs ++ x ∷ []) k d)
each_push d P [] x h y = first_or_later d P x [] y h
each_push d P (z ∷ xs) x h y = first_or_later d P z (xs ++ x ∷ []) (h 0) (each_push d P xs x (λ k. h (suc k)) y)
