-- How many pages of a file are kept in memory while its store is open.
use Rattle.std.specs.Prelude.{◌/◌, ℕ, min, max}

-- The octets of a page of a new store (SQLite's file format, section 1.3.2: a header names the size).
abbrev pub page_octets : ℕ
page_octets = 4096

-- all pages that a file of this length has, at least 128 and at most 2,000
abbrev pub pool_pages : (octets : ℕ) → ℕ
pool_pages octets = min 2000 (max 128 (octets / page_octets))
