-- The last link is told by its place.
use Rattle.std.proofs.Common.{◌≡◌, ℕ, ◌-◌, List, sym, ◌∙◌, subst, arith, length, get_or}
use Rattle.feature_links.specs.declared.link.FeatureLink.{FeatureLink}
use Rattle.feature_links.proofs.OddLaws.{at_end, last_is, not_empty, same_of, same_true}
use Rattle.feature_links.proofs.odd.ends_in.Goals as goal

read_at : (x : FeatureLink) (xs : List FeatureLink) (k n : ℕ) → x ≡ get_or xs k x → k ≡ n → x ≡ get_or xs n x
read_at x xs k n h e = subst (λ (m : ℕ). x ≡ get_or xs m x) e h

pub returns : goal.returns
returns c =
    let odd = c.args.odd.now in
    let last = c.index-odd-odd.result in
    let is_last = read_at last odd _ (length odd - 1) c.index-odd-odd.is (omega arith) in (
      (λ t. last_is odd c.args.link (not_empty (length odd) c.is_empty.result c.is_empty.ensures c.if-is_empty.false)
          (subst (λ (w : FeatureLink). w ≡ get_or odd (length odd - 1) w) (same_true last c.args.link (sym c.is_same.ensures ∙ t)) is_last)),
      (λ h. c.is_same.ensures ∙ same_of last c.args.link (is_last ∙ at_end odd h.0 c.args.link last h.1)),
    )
