-- Sums of weights, by the counts of what weighs more than each number: counts that agree for all tests give sums that agree.
use Rattle.std.proofs.Common.{◌≡◌, inl, inr, ℕ, zero, suc, ◌+◌, ◌*◌, ◌≤◌, List, [], ◌∷◌, ◌++◌, Bool, true, false, cond, ltb, refl, sym, ◌∙◌, ap, arith}
use Rattle.std.proofs.Math.Nat.{add-mul, one-mul, zero-mul}
use Rattle.std.specs.Prelude.{count_by, sum_by, ◌&&◌, if◌then◌else◌}
use Rattle.std.proofs.lemmas.Bool.{and_right, cases_lt, le-ltb, lt-ltb}
use Rattle.std.proofs.lemmas.List.Sums.{sum_by-append, sum_by-cons}
use Rattle.geom.specs.declared.point.Pt.{Pt}
use Rattle.geom.specs.declared.edge.Edge.{Edge}
use Rattle.geom.specs.Segments.{neighbours}
use Rattle.geom.specs.Rounded.{joins}
use Rattle.linking.specs.Links.{PassLinks, same_edge, wanted_steps}

-- ---- the sum of a number's first values
pub layers : ℕ → (ℕ → ℕ) → ℕ
layers zero f = 0
layers (suc n) f = layers n f + f n

pub layers_same : (n : ℕ) (f g : ℕ → ℕ) → ((v : ℕ) → f v ≡ g v) → layers n f ≡ layers n g
unfolding layers
layers_same zero f g h = refl
layers_same (suc n) f g h = let a = layers_same n f g h in let b = h n in omega arith

pub layers_plus : (n : ℕ) (f g : ℕ → ℕ) → layers n (λ v. f v + g v) ≡ layers n f + layers n g
unfolding layers
layers_plus zero f g = omega arith
layers_plus (suc n) f g = let a = layers_plus n f g in omega arith

pub layers_none : (n : ℕ) → layers n (λ v. 0) ≡ 0
unfolding layers
layers_none zero = refl
layers_none (suc n) = let a = layers_none n in omega arith

pub layers_times : (n : ℕ) (f : ℕ → ℕ) (k : ℕ) → layers n (λ v. f v * k) ≡ layers n f * k
unfolding layers
layers_times zero f k = sym (zero-mul k)
layers_times (suc n) f k = let a = layers_times n f k in let b = add-mul (layers n f) (f n) k in omega arith

pub layers_first : (n : ℕ) (f : ℕ → ℕ) → ((v : ℕ) → f (suc v) ≡ 0) → layers (suc n) f ≡ f 0
unfolding layers
layers_first zero f h = omega arith
layers_first (suc n) f h = let a = layers_first n f h in let b = h n in omega arith

-- a weight is above so many numbers
abbrev above : ℕ → ℕ → ℕ
above w v = cond {A = ℕ} (ltb v w) 1 0

all_above : (w n : ℕ) → n ≤ w → layers n (above w) ≡ n
unfolding layers
all_above w zero l = refl
all_above w (suc n) l = let a = all_above w n (omega arith) in let b : above w n ≡ 1 = rw (lt-ltb n w (omega arith)) refl in omega arith

pub layers_above : (w n : ℕ) → w ≤ n → layers n (above w) ≡ w
unfolding layers
layers_above w zero l = omega arith
layers_above w (suc n) l = elim (cases_lt n w) [
  | inl more ↦ let a = all_above w (suc n) more in omega arith
  | inr rest ↦ let a = layers_above w n rest in let b : above w n ≡ 0 = rw (le-ltb n w rest) refl in omega arith
]

-- ---- what weighs more than each number
pub count_none : {L : Type 0} (links : List L) → count_by (λ l. false) links ≡ 0
count_none [] = refl
count_none (l ∷ ls) = let a = count_none ls in let b = sum_by-cons (λ l. cond {A = ℕ} false 1 0) l ls in omega arith

if_above : (n w : ℕ) (b : Bool) → w ≤ n → layers n (λ v. cond {A = ℕ} (b && ltb v w) 1 0) ≡ cond b w 0
if_above n w true l = layers_above w n l
if_above n w false l = layers_none n

pub sum_is_layers : {L : Type 0} (at : L → Bool) (weight : L → ℕ) (n : ℕ) (links : List L) → sum_by weight links ≤ n → sum_by (λ l. cond (at l) (weight l) 0) links ≡ layers n (λ v. count_by (λ l. at l && ltb v (weight l)) links)
sum_is_layers at weight n [] l = sym (layers_none n)
sum_is_layers {L = L} at weight n (x ∷ xs) l =
    let s = sum_by-cons weight x xs in
    let own = if_above n (weight x) (at x) (omega arith) in
    let rest = sum_is_layers at weight n xs (omega arith) in
    let test : ℕ → L → Bool = λ v y. at y && ltb v (weight y) in
    let split = layers_same n (λ v. count_by (test v) (x ∷ xs)) (λ v. cond {A = ℕ} (test v x) 1 0 + count_by (test v) xs) (λ v. sum_by-cons (λ y. cond {A = ℕ} (test v y) 1 0) x xs) in
    let both = layers_plus n (λ v. cond {A = ℕ} (test v x) 1 0) (λ v. count_by (test v) xs) in
    let whole = sum_by-cons (λ y. cond (at y) (weight y) 0) x xs in
    omega arith

-- ---- the steps of the routes, each as often as its maker is worth
abbrev pub sum_of_steps : {M : Type 0} → (M → ℕ) → Edge → List M → List (List Pt) → ℕ
sum_of_steps worth e [] routes = 0
sum_of_steps worth e (m ∷ ms) [] = 0
sum_of_steps worth e (m ∷ ms) (route ∷ routes) = worth m * count_by (joins e) (neighbours route) + sum_of_steps worth e ms routes

if_count : (e : Edge) (b : Bool) (steps : List (Pt × Pt)) → count_by (joins e) (if b then steps else []) ≡ cond b 1 0 * count_by (joins e) steps
if_count e true steps = sym (one-mul (count_by (joins e) steps))
if_count e false steps = sym (zero-mul (count_by (joins e) steps))

pub steps_are_layers : {M : Type 0} (worth : M → ℕ) (e : Edge) (n : ℕ) (makers : List M) (routes : List (List Pt)) → sum_by worth makers ≤ n
    → layers n (λ v. count_by (joins e) (wanted_steps (λ m. ltb v (worth m)) makers routes)) ≡ sum_of_steps worth e makers routes
steps_are_layers worth e n [] routes l = layers_none n
steps_are_layers worth e n (m ∷ ms) [] l = layers_none n
steps_are_layers worth e n (m ∷ ms) (route ∷ routes) l =
    let s = sum_by-cons worth m ms in
    let steps = neighbours route in
    let k = count_by (joins e) steps in
    let rest = steps_are_layers worth e n ms routes (omega arith) in
    let later : ℕ → List (Pt × Pt) = λ v. wanted_steps (λ m. ltb v (worth m)) ms routes in
    let own = layers_times n (above (worth m)) k ∙ ap (λ (w : ℕ). w * k) (layers_above (worth m) n (omega arith)) in
    let split = layers_same n (λ v. count_by (joins e) ((if ltb v (worth m) then steps else []) ++ later v)) (λ v. above (worth m) v * k + count_by (joins e) (later v))
    (λ v. sum_by-append (λ t. cond {A = ℕ} (joins e t) 1 0) (if ltb v (worth m) then steps else []) (later v) ∙ ap (λ (w : ℕ). w + count_by (joins e) (later v)) (if_count e (ltb v (worth m)) steps)) in
    let both = layers_plus n (λ v. above (worth m) v * k) (λ v. count_by (joins e) (later v)) in
    omega arith

-- ---- links that weigh what their makers are worth
module _ {M L : Type 0} (link_of : M → Edge → L) (edge_of : L → Edge) (weight : L → ℕ) (worth : M → ℕ) (edge_is : (m : M) (f : Edge) → edge_of (link_of m f) ≡ f) (weight_is : (m : M) (f : Edge) → weight (link_of m f) ≡ worth m) where
  -- those links of the edge pass that weigh more than a number, which makers make that are worth more
  pub pass_above : (e : Edge) (v : ℕ) → PassLinks link_of e (λ m. ltb v (worth m)) (λ l. same_edge e (edge_of l) && ltb v (weight l))
  pass_above e v m f = ap (λ (g : Edge). same_edge e g && ltb v (weight (link_of m f))) (edge_is m f) ∙ ap (λ (w : ℕ). same_edge e f && ltb v w) (weight_is m f)

  -- links that are counted as something else is, whatever passes, weigh what that counts of each layer
  pub weighed : (e : Edge) (links : List L) (found : (M → Bool) → ℕ) → ((wanted : M → Bool) (test : L → Bool) → PassLinks link_of e wanted test → count_by test links ≡ found wanted)
      → (n : ℕ) → sum_by weight links ≤ n → sum_by (λ l. cond (same_edge e (edge_of l)) (weight l) 0) links ≡ layers n (λ v. found (λ m. ltb v (worth m)))
  weighed e links found all n l =
      sum_is_layers (λ k. same_edge e (edge_of k)) weight n links l
      ∙ layers_same n (λ v. count_by (λ k. same_edge e (edge_of k) && ltb v (weight k)) links) (λ v. found (λ m. ltb v (worth m)))
      (λ v. all (λ m. ltb v (worth m)) (λ k. same_edge e (edge_of k) && ltb v (weight k)) (pass_above e v))

  -- links of routes weigh as much as the steps of these
  pub weighed_steps : (e : Edge) (links : List L) (makers : List M) (routes : List (List Pt))
      → ((wanted : M → Bool) (test : L → Bool) → PassLinks link_of e wanted test → count_by test links ≡ count_by (joins e) (wanted_steps wanted makers routes))
      → sum_by (λ l. cond (same_edge e (edge_of l)) (weight l) 0) links ≡ sum_of_steps worth e makers routes
  weighed_steps e links makers routes all =
      let n = sum_by weight links + sum_by worth makers in
      weighed e links (λ wanted. count_by (joins e) (wanted_steps wanted makers routes)) all n (omega arith) ∙ steps_are_layers worth e n makers routes (omega arith)

  -- nothing passes where no maker is wanted
  pub none_wanted : (e : Edge) (links : List L) (found : (M → Bool) → ℕ) → ((wanted : M → Bool) (test : L → Bool) → PassLinks link_of e wanted test → count_by test links ≡ found wanted) → found (λ m. false) ≡ 0
  none_wanted e links found all = sym (all (λ m. false) (λ l. false) (λ m f. sym (and_right (same_edge e f) false refl))) ∙ count_none links

  -- makers that are worth one at most: those that are worth one
  pub weighed_ones : (one : M → Bool) → ((m : M) → worth m ≡ cond (one m) 1 0) → (e : Edge) (links : List L) (found : (M → Bool) → ℕ)
      → ((wanted : M → Bool) (test : L → Bool) → PassLinks link_of e wanted test → count_by test links ≡ found wanted) → sum_by (λ l. cond (same_edge e (edge_of l)) (weight l) 0) links ≡ found one
  weighed_ones one is e links found all =
      let n = sum_by weight links in
      weighed e links found all (suc n) (omega arith)
      ∙ layers_first n (λ v. found (λ m. ltb v (worth m))) (λ v. ap found (λ i m. no_more (one m) v (worth m) (is m) i) ∙ none_wanted e links found all)
      ∙ ap found (λ i m. first (one m) (worth m) (is m) i)
    where
      no_more : (b : Bool) (v w : ℕ) → w ≡ cond b 1 0 → ltb (suc v) w ≡ false
      no_more true v w h = le-ltb (suc v) w (omega arith)
      no_more false v w h = le-ltb (suc v) w (omega arith)

      first : (b : Bool) (w : ℕ) → w ≡ cond b 1 0 → ltb 0 w ≡ b
      first true w h = lt-ltb 0 w (omega arith)
      first false w h = le-ltb 0 w (omega arith)
