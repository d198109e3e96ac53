-- How addresses and prefixes are written.
use Rattle.std.specs.Prelude.{ℕ, ◌+◌, ◌/◌, ◌%◌, ◌^◌, cond, List, [], ◌∷◌, ◌++◌, codes, decimal, nat_lt}

-- four decimal numbers with dots between
abbrev pub dotted : ℕ → List ℕ
dotted a = decimal (a / 2 ^ 24) ++ (codes "." ++ (decimal (a / 2 ^ 16 % 2 ^ 8) ++ (codes "." ++ (decimal (a / 2 ^ 8 % 2 ^ 8) ++ (codes "." ++ decimal (a % 2 ^ 8))))))

-- the lower-case hexadecimal digit of a number below 16
abbrev pub digit16 : ℕ → ℕ
digit16 d = cond (nat_lt d 10) (48 + d) (87 + d)

-- four hexadecimal digits
abbrev pub group : ℕ → List ℕ
group v = digit16 (v / 4096 % 16) ∷ digit16 (v / 256 % 16) ∷ digit16 (v / 16 % 16) ∷ digit16 (v % 16) ∷ []

-- the four groups of a half, with colons between
abbrev pub groups : ℕ → List ℕ
groups h = group (h / 2 ^ 48 % 2 ^ 16) ++ (codes ":" ++ (group (h / 2 ^ 32 % 2 ^ 16) ++ (codes ":" ++ (group (h / 2 ^ 16 % 2 ^ 16) ++ (codes ":" ++ group (h % 2 ^ 16))))))

-- eight groups with colons between
abbrev pub colons : ℕ → ℕ → List ℕ
colons hi lo = groups hi ++ (codes ":" ++ groups lo)

-- the address, a slash and the length
abbrev pub slashed : List ℕ → ℕ → List ℕ
slashed address len = address ++ (codes "/" ++ decimal len)

-- a refusal, by its number
abbrev pub refused : ℕ → List ℕ
refused n = codes "refused " ++ decimal n
