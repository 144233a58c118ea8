-- The text of a workload: a script of so many counters, and what comes of them. (This project's own.)
use Rattle.std.specs.Prelude.{ℕ, ◌+◌, ◌-◌, ◌*◌, ◌/◌, ◌%◌, ◌==◌, min, List, ◌++◌, codes, decimal, count_by, flat_map}
use Rattle.std.specs.List.{range_with_len}

-- the path under which the script is run
abbrev pub workload_path : List ℕ
workload_path = codes "workload"

-- the first n numbers, each of which is a counter
abbrev pub counters : ℕ → List ℕ
counters n = range_with_len 0 n

-- a counter is in one of four groups
abbrev pub group_of : ℕ → ℕ
group_of i = i % 4

-- how many of n counters are in a group
abbrev pub group_size : ℕ → ℕ → ℕ
group_size n group = count_by (λ i. group_of i == group) (counters n)

-- a counter's labels, and what stands behind them in its line
abbrev pub labelled : ℕ → List ℕ → List ℕ
labelled i behind = codes "  w_total{s=\"" ++ (decimal i ++ (codes "\",g=\"" ++ (decimal (group_of i) ++ (codes "\"} " ++ behind))))

-- a counter begins at 0 and grows by i + 1 a second, over an hour of minutes
abbrev pub counter_line : ℕ → List ℕ
counter_line i = labelled i (codes "0+" ++ (decimal (60 * (i + 1)) ++ codes "x60\n"))

-- the counters are loaded
abbrev pub load_part : ℕ → List ℕ
load_part n = codes "load 1m\n" ++ flat_map counter_line (counters n)

-- their rates are 1 to n, so the sum of these is the same at each of twelve steps
abbrev pub rate_part : ℕ → List ℕ
rate_part n = codes "\neval range from 5m to 60m step 5m sum(rate(w_total[5m]))\n  {} " ++ (decimal (n * (n + 1) / 2) ++ codes "x11\n")

-- a group, and how many of n counters are in it
abbrev pub group_line : ℕ → ℕ → List ℕ
group_line n group = codes "  {g=\"" ++ (decimal group ++ (codes "\"} " ++ (decimal (group_size n group) ++ codes "\n")))

-- each group that has a counter is counted
abbrev pub group_part : ℕ → List ℕ
group_part n = codes "\neval instant at 60m count by (g) (w_total)\n" ++ flat_map (group_line n) (counters (min 4 n))

-- the last counter is the greatest, and has grown for an hour
abbrev pub top_part : ℕ → List ℕ
top_part n = codes "\neval instant at 60m topk(1, w_total)\n" ++ labelled (n - 1) (decimal (3600 * n) ++ codes "\n")

-- the whole script
abbrev pub workload_text : ℕ → List ℕ
workload_text n = load_part n ++ (rate_part n ++ (group_part n ++ top_part n))

-- the line of how much is loaded: a counter has a sample at the start, and one a minute for an hour
abbrev pub loaded_text : ℕ → List ℕ
loaded_text n = codes "series " ++ (decimal n ++ (codes " samples " ++ (decimal (61 * n) ++ codes "\n")))
