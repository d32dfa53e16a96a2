-- Limits of texts: what is within one of them is within the greatest.
use Rattle.std.proofs.Common.{◌≤◌, ℕ, List, length, arith}
use Rattle.std.proofs.lemmas.Int.{clamps}
use Rattle.wkt.specs.LayerText.{Ring}
use Rattle.wkt.specs.Refusals.{IsAcceptedWithin}
use Rattle.layers.specs.FeatureLayers.{AreShort}
use Rattle.layers.specs.Refusals.{greatest_text, text_limit}

limit_fits : (segments : ℕ) → text_limit segments ≤ greatest_text
limit_fits segments = omega (arith, clamps)

short_enough : (segments n : ℕ) → n ≤ text_limit segments → n ≤ greatest_text
short_enough segments n h = omega (arith, h, limit_fits segments)

pub accepted_at_most : (segments : ℕ) (text : List ℕ) (rings : List Ring) → IsAcceptedWithin (text_limit segments) text rings → IsAcceptedWithin greatest_text text rings
accepted_at_most segments text rings h = record { short = short_enough segments (length text) h.short; accepted = h.accepted }

pub short_at_most : (segments : ℕ) (texts : List (List ℕ)) → AreShort (text_limit segments) texts → AreShort greatest_text texts
short_at_most segments texts h = λ k d below. short_enough segments _ (h k d below)
