use Rattle.std.proofs.Common.{◌≡◌, ℕ, suc, ◌/◌, ◌%◌, ◌-◌, ◌^◌, ◌<◌, ◌≤◌, List, [], ◌∷◌, ◌∙◌, false, cond, ap, subst, ⊎_elim, eq-eqb, ne_eqb, arith}
use Rattle.std.proofs.lemmas.Bool.{cases_lt}
use Rattle.std.proofs.lemmas.Fmt.{hex_one_digit, hex_two_digits}
use Rattle.std.specs.Fmt.{HasWritten, format_spec, padded_integral, digits, digits_onto, char_count}
use Rattle.address.specs.Text.{digit16, group}
use Rattle.address.proofs.text.GroupDisplay.fmt.Goals as goal

-- the last digit of several, and the first
step : (k v : ℕ) (after : List ℕ) → 16 ≤ v → digits_onto (suc k) 16 false v after ≡ digits_onto k 16 false (v / 16) (digit16 (v % 16) ∷ after)
step k v after large = ap (λ b. cond b (digit16 (v % 16) ∷ after) (digits_onto k 16 false (v / 16) (digit16 (v % 16) ∷ after))) (ne_eqb (v / 16) 0 (omega arith))

last : (k v : ℕ) (after : List ℕ) → v < 16 → digits_onto (suc k) 16 false v after ≡ digit16 (v % 16) ∷ after
last k v after small = ap (λ b. cond b (digit16 (v % 16) ∷ after) (digits_onto k 16 false (v / 16) (digit16 (v % 16) ∷ after))) (eq-eqb (v / 16) 0 (omega arith))

three : (v : ℕ) → 256 ≤ v → v < 4096 → digits 16 false v ≡ digit16 (v / 256 % 16) ∷ digit16 (v / 16 % 16) ∷ digit16 (v % 16) ∷ []
unfolding digits
three v large small =
    let a : v / 16 / 16 % 16 ≡ v / 256 % 16 = omega arith in
    step 63 v [] (omega arith)
    ∙ step 62 (v / 16) (digit16 (v % 16) ∷ []) (omega arith)
    ∙ last 61 (v / 16 / 16) (digit16 (v / 16 % 16) ∷ digit16 (v % 16) ∷ []) (omega arith)
    ∙ ap (λ d. digit16 d ∷ digit16 (v / 16 % 16) ∷ digit16 (v % 16) ∷ []) a

four : (v : ℕ) → 4096 ≤ v → v < 65536 → digits 16 false v ≡ group v
unfolding digits
four v large small =
    let a : v / 16 / 16 / 16 % 16 ≡ v / 4096 % 16 = omega arith in
    let b : v / 16 / 16 % 16 ≡ v / 256 % 16 = omega arith in
    step 63 v [] (omega arith)
    ∙ step 62 (v / 16) (digit16 (v % 16) ∷ []) (omega arith)
    ∙ step 61 (v / 16 / 16) (digit16 (v / 16 % 16) ∷ digit16 (v % 16) ∷ []) (omega arith)
    ∙ last 60 (v / 16 / 16 / 16) (digit16 (v / 16 / 16 % 16) ∷ digit16 (v / 16 % 16) ∷ digit16 (v % 16) ∷ []) (omega arith)
    ∙ ap (λ d. digit16 d ∷ digit16 (v / 16 / 16 % 16) ∷ digit16 (v / 16 % 16) ∷ digit16 (v % 16) ∷ []) a
    ∙ ap (λ d. digit16 (v / 4096 % 16) ∷ digit16 d ∷ digit16 (v / 16 % 16) ∷ digit16 (v % 16) ∷ []) b

-- a number in four digits, with zeros in front
abbrev padded : ℕ → List ℕ
padded v = padded_integral (format_spec 32 0 4 4 (2 ^ 64 - 1)) false [] (digits 16 false v)

padded_byte : (v : ℕ) → v < 256 → padded v ≡ group v
unfolding padded_integral char_count
padded_byte v low =
    let a : v / 4096 % 16 ≡ 0 = omega arith in
    let b : v / 256 % 16 ≡ 0 = omega arith in
    ⊎_elim
    (λ one. let c : v / 16 % 16 ≡ 0 = omega arith in let d : v % 16 ≡ v = omega arith in rw (hex_one_digit false v one, a, b, c, d))
    (λ two. let c : v / 16 % 16 ≡ v / 16 = omega arith in rw (hex_two_digits false v two low, a, b, c))
    (cases_lt v 16)

padded_more : (v : ℕ) → 256 ≤ v → v < 65536 → padded v ≡ group v
unfolding padded_integral char_count
padded_more v large small = ⊎_elim
    (λ below. let a : v / 4096 % 16 ≡ 0 = omega arith in rw (three v large below, a))
    (λ above. rw (four v above small))
    (cases_lt v 4096)

padded_group : (v : ℕ) → v < 65536 → padded v ≡ group v
padded_group v small = ⊎_elim (padded_byte v) (λ large. padded_more v large small) (cases_lt v 256)

pub returns-clause-writes : goal.returns-clause-writes
returns-clause-writes g c = λ plain ok.
    let w = rw (c.laid_out.ensures, c.in_radix.ensures) at c.write.ensures.writes in
    subst (λ bs. HasWritten g.W.Write.write_str_gives c.args.f.now bs c.write.new.self) (padded_group c.args.self.now.0 (omega arith)) (w plain ok)
