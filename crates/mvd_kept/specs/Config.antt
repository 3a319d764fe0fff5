-- What a site is set up with.
use Rattle.std.specs.Prelude.{ℕ, ◌<◌, ◌≤◌, ◌^◌, refl}
use Rattle.std.specs.Coded.{Coded, code_by, coded×, coded_ℕ}
use Rattle.mvd_rows.specs.Defs.{Definitions, definitions_code}

-- a site's number, how many keys it may hold, and its indexes and views
pub record ConfigValue : Type 0 where
  pub site : ℕ
  pub max_keys : ℕ
  pub defs : Definitions

-- a site is 1..=2^32 - 1, and it holds 1..=1,000,000 keys at the most
pub record IsConfig (site max_keys : ℕ) : Type 0 where
  pub site_low : 0 < site
  pub site_high : site < 2 ^ 32
  pub keys_low : 0 < max_keys
  pub keys_high : max_keys ≤ 1000000

abbrev pub config_code : Coded ConfigValue
config_code = code_by (ℕ × (ℕ × Definitions)) (coded× coded_ℕ (coded× coded_ℕ definitions_code))
    (λ c. (c.site, (c.max_keys, c.defs))) (λ p. record { site = p.0; max_keys = p.1.0; defs = p.1.1 }) (λ _. refl)
