-- The first chosen edge that is met, turning clockwise round a vertex from one of its edges.
use Rattle.std.proofs.Common.{◌≡◌, ◌⊎◌, inl, inr, Bool, true, false, not, List, [], ◌∷◌, refl, sym, ◌∙◌, arith, subst}
use Rattle.geom.specs.declared.point.Pt.{Pt}
use Rattle.geom.specs.declared.edge.Edge.{Edge}
use Rattle.geom.proofs.Lists.{In}
use Rattle.points_law.proofs.Choices.{◌⊕◌, ◌∧∧◌, Even}
use Rattle.points_law.proofs.ResultOfChoices.{Edges}
use Rattle.points_law.proofs.Even.{same, same_is, same_refl, by_test, not_true, clash}
use Rattle.points_law.proofs.Turn.{before, ends_at}
use Rattle.points_law.proofs.Next.{between, NoneBetween, another, before_trans, not_before_itself, pair}

-- ---- of three edges, by which comes before which
total : (ef fe eg ge fg gf : Bool) → ef ⊕ fe ≡ true → eg ⊕ ge ≡ true → fg ⊕ gf ≡ true → (ef ∧∧ fg ⊕ fg ∧∧ ge) ⊕ ge ∧∧ ef ≡ false → (eg ∧∧ gf ⊕ gf ∧∧ fe) ⊕ fe ∧∧ eg ≡ true
total ef fe eg ge fg gf h i j k = grind arith

asymmetric : (ef fe eg ge fg gf : Bool) → ef ⊕ fe ≡ true → eg ⊕ ge ≡ true → fg ⊕ gf ≡ true → (eg ∧∧ gf ⊕ gf ∧∧ fe) ⊕ fe ∧∧ eg ≡ true → (ef ∧∧ fg ⊕ fg ∧∧ ge) ⊕ ge ∧∧ ef ≡ false
asymmetric ef fe eg ge fg gf h i j k = grind arith

transitive : (ef fg ge eg gk ke fk : Bool) → eg ⊕ ge ≡ true → (fg ≡ true → gk ≡ true → fk ≡ true) → (ef ∧∧ fg ⊕ fg ∧∧ ge) ⊕ ge ∧∧ ef ≡ true → (eg ∧∧ gk ⊕ gk ∧∧ ke) ⊕ ke ∧∧ eg ≡ true
    → (ef ∧∧ fk ⊕ fk ∧∧ ke) ⊕ ke ∧∧ ef ≡ true
transitive ef fg ge eg gk ke fk h t i j = grind arith

not_first : (ee eg ge : Bool) → ee ≡ false → eg ⊕ ge ≡ true → (ee ∧∧ eg ⊕ eg ∧∧ ge) ⊕ ge ∧∧ ee ≡ false
not_first ee eg ge h i = grind arith

not_last : (eg gg ge : Bool) → gg ≡ false → eg ⊕ ge ≡ true → (eg ∧∧ gg ⊕ gg ∧∧ ge) ⊕ ge ∧∧ eg ≡ false
not_last eg gg ge h i = grind arith

-- ---- the first one
-- a chosen edge at v other than e, met before every other one among xs
pub record FirstMet (es : List Edge) (r : Edge → Bool) (v : Pt) (e : Edge) (xs : List Edge) : Type 0 where
  pub edge : Edge
  pub inside : In edge es
  pub ends : ends_at v edge ≡ true
  pub chosen : r edge ≡ true
  pub other : ¬ (e ≡ edge)
  pub first : (f : Edge) → In f xs → r f ≡ true → ends_at v f ≡ true → ¬ (e ≡ f) → ¬ (edge ≡ f) → between v e edge f ≡ true

-- e is the only chosen edge at v among xs
abbrev pub OnlyOne : (Edge → Bool) → Pt → Edge → List Edge → Type 0
OnlyOne r v e xs = (f : Edge) → In f xs → ends_at v f ≡ true → r f ≡ true → f ≡ e

abbrev candidate : (Edge → Bool) → Pt → Edge → Edge → Bool
candidate r v e f = r f ∧∧ (ends_at v f ∧∧ not (same e f))

passes : (r n s : Bool) → r ≡ true → n ≡ true → s ≡ false → r ∧∧ (n ∧∧ not s) ≡ true
passes r n s h i j = grind arith

passed : (r n s : Bool) → r ∧∧ (n ∧∧ not s) ≡ true → (r ≡ true) × (n ≡ true) × (s ≡ false)
passed r n s h = (grind arith, grind arith, grind arith)

module _ (es : List Edge) (h : Edges es) (r : Edge → Bool) (v : Pt) (e : Edge) (i : In e es) (x : ends_at v e ≡ true) where
  is_candidate : (f : Edge) → r f ≡ true → ends_at v f ≡ true → ¬ (e ≡ f) → candidate r v e f ≡ true
  is_candidate f rf n o = passes (r f) (ends_at v f) (same e f) rf n (not_true (same e f) (λ s. o (same_is e f s)))

  skip_none : (y : Edge) (ys : List Edge) → candidate r v e y ≡ false → OnlyOne r v e ys → OnlyOne r v e (y ∷ ys)
  skip_none y ys c o f (inr k) n rf = o f k n rf
  skip_none y ys c o f (inl q) n rf = by_test (same e f) (f ≡ e) (λ s. sym (same_is e f s))
      (λ s. clash (candidate r v e f) (subst (λ w. candidate r v e w ≡ false) q c) (passes (r f) (ends_at v f) (same e f) rf n s))

  skip : (y : Edge) (ys : List Edge) → candidate r v e y ≡ false → FirstMet es r v e ys → FirstMet es r v e (y ∷ ys)
  skip y ys c m = record { edge = m.edge; inside = m.inside; ends = m.ends; chosen = m.chosen; other = m.other; first = still }
    where
      still : (f : Edge) → In f (y ∷ ys) → r f ≡ true → ends_at v f ≡ true → ¬ (e ≡ f) → ¬ (m.edge ≡ f) → between v e m.edge f ≡ true
      still f (inr k) rf n o d = m.first f k rf n o d
      still f (inl q) rf n o d = clash (candidate r v e f) (subst (λ w. candidate r v e w ≡ false) q c) (is_candidate f rf n o)

  only : (y : Edge) (ys : List Edge) → In y es → candidate r v e y ≡ true → OnlyOne r v e ys → FirstMet es r v e (y ∷ ys)
  only y ys j c o = record { edge = y; inside = j; ends = p.1; chosen = p.0; other = apart; first = lone }
    where
      p : (r y ≡ true) × (ends_at v y ≡ true) × (same e y ≡ false)
      p = passed (r y) (ends_at v y) (same e y) c

      apart : ¬ (e ≡ y)
      apart q = clash (same y y) (subst (λ w. same w y ≡ false) q p.2) (same_refl y)

      lone : (f : Edge) → In f (y ∷ ys) → r f ≡ true → ends_at v f ≡ true → ¬ (e ≡ f) → ¬ (y ≡ f) → between v e y f ≡ true
      lone f (inl q) rf n d a = absurd (a q)
      lone f (inr k) rf n d a = absurd (d (sym (o f k n rf)))

  keep : (y : Edge) (ys : List Edge) (m : FirstMet es r v e ys) → (¬ (m.edge ≡ y) → between v e m.edge y ≡ true) → FirstMet es r v e (y ∷ ys)
  keep y ys m b = record { edge = m.edge; inside = m.inside; ends = m.ends; chosen = m.chosen; other = m.other; first = still }
    where
      still : (f : Edge) → In f (y ∷ ys) → r f ≡ true → ends_at v f ≡ true → ¬ (e ≡ f) → ¬ (m.edge ≡ f) → between v e m.edge f ≡ true
      still f (inr k) rf n o d = m.first f k rf n o d
      still f (inl q) rf n o d = subst (λ w. between v e m.edge w ≡ true) q (b (λ s. d (s ∙ q)))

  sooner : (f g : Edge) → In f es → In g es → ends_at v f ≡ true → ends_at v g ≡ true → ¬ (e ≡ f) → ¬ (e ≡ g) → ¬ (f ≡ g) → between v e f g ≡ false → between v e g f ≡ true
  sooner f g j k n m a b c t = total (before v e f) (before v f e) (before v e g) (before v g e) (before v f g) (before v g f)
      (pair es h v e f i j x n a) (pair es h v e g i k x m b) (pair es h v f g j k n m c) t

  onward : (f g k : Edge) → In f es → In g es → In k es → ends_at v g ≡ true → ¬ (e ≡ g) → between v e f g ≡ true → between v e g k ≡ true → between v e f k ≡ true
  onward f g k a b c n d s t = transitive (before v e f) (before v f g) (before v g e) (before v e g) (before v g k) (before v k e) (before v f k)
      (pair es h v e g i b x n d) (before_trans v f g k (h.ordered f a) (h.ordered g b) (h.ordered k c)) s t

  better : (y : Edge) (ys : List Edge) → ((f : Edge) → In f ys → In f es) → In y es → candidate r v e y ≡ true → (m : FirstMet es r v e ys) → ¬ (m.edge ≡ y) → between v e m.edge y ≡ false → FirstMet es r v e (y ∷ ys)
  better y ys known j c m a t = record { edge = y; inside = j; ends = p.1; chosen = p.0; other = apart; first = now }
    where
      p : (r y ≡ true) × (ends_at v y ≡ true) × (same e y ≡ false)
      p = passed (r y) (ends_at v y) (same e y) c

      apart : ¬ (e ≡ y)
      apart q = clash (same y y) (subst (λ w. same w y ≡ false) q p.2) (same_refl y)

      past : between v e y m.edge ≡ true
      past = sooner m.edge y m.inside j m.ends p.1 m.other apart a t

      now : (f : Edge) → In f (y ∷ ys) → r f ≡ true → ends_at v f ≡ true → ¬ (e ≡ f) → ¬ (y ≡ f) → between v e y f ≡ true
      now f (inl q) rf n o d = absurd (d q)
      now f (inr k) rf n o d = by_test (same m.edge f) (between v e y f ≡ true)
          (λ s. subst (λ w. between v e y w ≡ true) (same_is m.edge f s) past)
          (λ s. onward y m.edge f j m.inside (known f k) m.ends m.other past (m.first f k rf n o (λ q. clash (same f f) (subst (λ w. same w f ≡ false) q s) (same_refl f))))

  choose : (y : Edge) (ys : List Edge) → ((f : Edge) → In f ys → In f es) → In y es → candidate r v e y ≡ true → FirstMet es r v e ys → FirstMet es r v e (y ∷ ys)
  choose y ys known j c m = by_test (same m.edge y) (FirstMet es r v e (y ∷ ys))
      (λ s. keep y ys m (λ d. absurd (d (same_is m.edge y s))))
      (λ s. by_test (between v e m.edge y) (FirstMet es r v e (y ∷ ys))
      (λ b. keep y ys m (λ d. b))
      (λ b. better y ys known j c m (λ q. clash (same y y) (subst (λ w. same w y ≡ false) q s) (same_refl y)) b))

  next : (y : Edge) (ys : List Edge) → ((f : Edge) → In f ys → In f es) → In y es → (t : Bool) → candidate r v e y ≡ t → FirstMet es r v e ys ⊎ OnlyOne r v e ys → FirstMet es r v e (y ∷ ys) ⊎ OnlyOne r v e (y ∷ ys)
  next y ys known j false c (inl m) = inl (skip y ys c m)
  next y ys known j false c (inr o) = inr (skip_none y ys c o)
  next y ys known j true c (inl m) = inl (choose y ys known j c m)
  next y ys known j true c (inr o) = inl (only y ys j c o)

  search_in : (xs : List Edge) → ((f : Edge) → In f xs → In f es) → FirstMet es r v e xs ⊎ OnlyOne r v e xs
  search_in [] known = inr (λ f j n rf. absurd j)
  search_in (y ∷ ys) known = next y ys (λ f j. known f (inr j)) (known y (inl refl)) (candidate r v e y) refl (search_in ys (λ f j. known f (inr j)))

  some : FirstMet es r v e es ⊎ OnlyOne r v e es → ¬ (OnlyOne r v e es) → FirstMet es r v e es
  some (inl m) n = m
  some (inr o) n = absurd (n o)

  -- where the degrees are even there is one
  pub first_met : Even r es → r e ≡ true → FirstMet es r v e es
  first_met ev re = some (search_in es (λ f j. j)) (another es h r ev v e i x re)

  -- no edge is strictly between e and one that is met before every other
  pub none_between : (g : Edge) → In g es → ends_at v g ≡ true → ¬ (e ≡ g) → ((f : Edge) → In f es → r f ≡ true → ends_at v f ≡ true → ¬ (e ≡ f) → ¬ (g ≡ f) → between v e g f ≡ true) → NoneBetween r es v e g
  none_between g j n d first f k rf m = by_test (same e f) (between v e f g ≡ false)
      (λ s. subst (λ w. between v e w g ≡ false) (same_is e f s) (not_first (before v e e) (before v e g) (before v g e) (not_before_itself v e (h.ordered e i)) (pair es h v e g i j x n d)))
      (λ s. by_test (same g f) (between v e f g ≡ false)
      (λ t. subst (λ w. between v e w g ≡ false) (same_is g f t) (not_last (before v e g) (before v g g) (before v g e) (not_before_itself v g (h.ordered g j)) (pair es h v e g i j x n d)))
      (λ t. asymmetric (before v e f) (before v f e) (before v e g) (before v g e) (before v f g) (before v g f)
      (pair es h v e f i k x m (apart e f s)) (pair es h v e g i j x n d) (pair es h v f g k j m n (λ q. apart g f t (sym q)))
      (first f k rf m (apart e f s) (apart g f t))))
    where
      apart : (a b : Edge) → same a b ≡ false → ¬ (a ≡ b)
      apart a b s q = clash (same b b) (subst (λ w. same w b ≡ false) q s) (same_refl b)
