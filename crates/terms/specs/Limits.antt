-- The limits of document 01, one table ("The bucket", "The tariff and its ranges",
-- "The two files", "Refusals by number").
-- Assumes nothing.
use Rattle.std.specs.Prelude.{ℕ}

-- a demand or an offer
abbrev pub demand_limit : ℕ
demand_limit = 65535

-- the rate of a bucket, and a rate cap
abbrev pub rate_limit : ℕ
rate_limit = 4095

-- the depth of a bucket, and a depth cap
abbrev pub depth_limit : ℕ
depth_limit = 1000000

-- a rate price or a depth price
abbrev pub price_limit : ℕ
price_limit = 65535

-- the setup fee
abbrev pub fee_limit : ℕ
fee_limit = 1000000000

-- q of a factor p/q
abbrev pub parts_limit : ℕ
parts_limit = 1000

-- T, the periods of a trace
abbrev pub trace_limit : ℕ
trace_limit = 512

-- the periods that a meter takes
abbrev pub meter_limit : ℕ
meter_limit = 1000000

-- a total of a meter
abbrev pub total_limit : ℕ
total_limit = 100000000000

-- the cost of a plan
abbrev pub cost_limit : ℕ
cost_limit = 100000000000000
