-- Numbers of document 01, said a second time, so that a slip in a definition does not pass with a program that has it too.
--
--   numbers     "Numbers to check", those marked P there, as one table under one statement: salting, packing, width, subtraction (after 002),
--               stratum, the estimate, and stopping sets (knots)
--   constants   the constants of this layer and of `bucket`, each under the words that fix it
--
-- Assumes nothing.
use Rattle.std.specs.Prelude.{◌≡◌, refl, Bool, true, false, ◌&&◌, cond, None, Some, Ok, Err, List, [], ◌∷◌, ◌++◌, map, ℕ, ◌+◌, ◌*◌, ◌%◌, ◌^◌, eqb, ℤ, pos, negsuc, length, replicate}
use Rattle.std.specs.Int.Count.{count_trailing_zeros, count_leading_zeros}
use Rattle.bucket.specs.Digits.{joined, groups, packed}
use Rattle.bucket.specs.Salt.{rot, salted}
use Rattle.bucket.specs.Counts.{stratum_of, width_of}
use Rattle.bucket.specs.Crc.{crc_of, crc32, feed, steps, tabulated}
use Rattle.bucket.specs.Bucket.{Bucket, bucket, ◌⊕◌, ◌⊖◌, neg, 𝟎, is_zero}
use Rattle.bucket.specs.Columns.{Columns, columns, view}
use Rattle.bucket.specs.Lists.{elem}
use Rattle.bucket.specs.Packing.{is_width}
use Rattle.bucket.specs.Places.{draw, crc_next, candidate, candidates, firsts, places_by, place_count}
use Rattle.bucket.proofs.PlaceLaws.{place-count_37}
use Rattle.filter.specs.declared.answers.Refusal.TheVariants.{Form, Room, Range, Malformed, OutOfTurn, FalseReading, Breach, Checksum, Swaps, Limit}
use Rattle.filter.specs.declared.answers.Reading.{Reading}
use Rattle.filter.specs.declared.answers.Unread.{Unread}
use Rattle.filter.specs.declared.answers.Unread.TheVariants.{Untrue}
use Rattle.filter.specs.declared.answers.Estimate.TheVariants.{Known, Unknown}
use Rattle.filter.specs.declared.answers.Verdict.TheVariants as verdicts
use Rattle.filter.specs.Answers.{refusal_number, number_of, answer, answer_of, estimate, made_answer, estimate_answer}
use Rattle.filter.specs.Lists.{ascending, distinct}
use Rattle.filter.specs.Table.{hashes_of, first_eight, ids_of, is_table}
use Rattle.filter.specs.Filter.{Item, ours, theirs, Rule, touches, cell, put, sum_at, filter_of, difference}
use Rattle.filter.specs.Peeling.{first, reach, all_zero, Outcome, ended, agrees, is_pure, look, remove, next, run, reading, looking, looked, verdict}
use Rattle.filter.specs.Calls.{in_range, is_count, all_counts, has_room, filled}
use Rattle.filter.specs.Estimator.{
  estimator_rule,
  stratum_rule,
  stratum,
  less,
  readings,
  sampled,
  estimate_of,
  remaining,
  estimator_refusal,
  estimate_refusal,
  estimated,
  estimate_call,
}

-- "knots, places given: p and q both {0,1,2}, r {2,3,4}", with p = 1, q = 2, r = 3 and any check sum
abbrev pub given : ℕ → List ℕ
given a = cond (eqb a 3) (2 ∷ 3 ∷ 4 ∷ []) (0 ∷ 1 ∷ 2 ∷ [])

abbrev pub worked : Rule
worked = record { size = 6; code = λ a. a; decode = λ a. a; places = given; check = λ a. a * 7 + 1 }

-- a difference with an empty filter, and r put into bucket 2 alone
abbrev pub against : List ℕ → ℕ → Bucket
against t = difference worked t (filter_of worked [])

abbrev pub only_at2 : ℕ → Bucket
only_at2 i = cond (eqb i 2) (bucket 3 22 (pos 1)) 𝟎

-- the reading of p, q and r
abbrev pub worked_reading : Outcome
worked_reading = reading worked (against (1 ∷ 2 ∷ 3 ∷ []))

-- a stratum's reading that is complete with some items listed, one that is stuck, and one that is false though all is zero
abbrev pub whole : List Item → Outcome
whole l = ended true l (λ i. 𝟎)

abbrev pub stuck : Outcome
stuck = ended true [] (λ i. bucket 0 0 (pos 2))

abbrev pub untrue : Outcome
untrue = ended false [] (λ i. 𝟎)

-- strata 31 to 4 list three IDs, stratum 3 is stuck, and strata 2 to 0 would list one each
abbrev pub worked_strata : List Outcome
worked_strata =
    replicate 26 (whole [])
    ++ (whole (ours 16 ∷ theirs 48 ∷ []) ∷ whole (ours 80 ∷ []) ∷ stuck ∷ replicate 3 (whole (ours 1 ∷ [])))

pub numbers :
    (salted 1 0x80 ≡ 1)
    × (salted 0 1 ≡ 1)
    × (salted 9 1 ≡ 2)
    × (packed 2 (1 ∷ 2 ∷ 0 ∷ 1 ∷ []) ≡ 0x61 ∷ [])
    × (packed 3 (5 ∷ 0 ∷ 7 ∷ []) ≡ 0xA3 ∷ 0x80 ∷ [])
    × (packed 9 (256 ∷ 1 ∷ []) ≡ 0x80 ∷ 0x00 ∷ 0x40 ∷ [])
    × (width_of 0 ≡ 1)
    × (width_of 1 ≡ 1)
    × (width_of 255 ≡ 8)
    × (width_of 256 ≡ 9)
    × (bucket 0x0206 0 (pos 1) ⊖ bucket 0x0102 0 (pos 0) ≡ bucket 0x0304 0 (pos 1))
    × (bucket 0 0 (pos 2) ⊖ bucket 0 0 (pos 1) ≡ bucket 0 0 (pos 1))
    × (bucket 0 0 (pos 0) ⊖ bucket 0 0 (pos 1) ≡ bucket 0 0 (negsuc 0))
    × (bucket 0 0 (pos 1) ⊖ bucket 0 0 (pos 1) ≡ bucket 0 0 (pos 0))
    × (stratum_of 1 ≡ 0)
    × (stratum_of 8 ≡ 3)
    × (stratum_of 0 ≡ 31)
    × (length worked_strata ≡ 32)
    × (estimate_of 0 worked_strata ≡ Known 48)
    -- "r is listed, p and q remain"
    × (worked_reading.listed ≡ ours 3 ∷ [])
    × (verdict worked (1 ∷ 2 ∷ 3 ∷ []) worked_reading ≡ verdicts.Stuck)
    × (worked_reading.rest 0 ≡ sum_at worked (ours 1 ∷ ours 2 ∷ []) 0)
    × (worked_reading.rest 1 ≡ sum_at worked (ours 1 ∷ ours 2 ∷ []) 1)
    × (worked_reading.rest 2 ≡ sum_at worked (ours 1 ∷ ours 2 ∷ []) 2)
    × (worked_reading.rest 3 ≡ 𝟎)
    × (worked_reading.rest 4 ≡ 𝟎)
    -- document 02, Req 11: r is found at bucket 3, and a last look goes over all six; r alone is found at bucket 2, and the columns are zero at the
    -- last look; equal tables have that look alone; and where only bucket 2 has r, the look that finds it again, at bucket 3, is the last
    × (map (looked worked) (against (1 ∷ 2 ∷ 3 ∷ []) ∷ against (3 ∷ []) ∷ against [] ∷ only_at2 ∷ []) ≡ 10 ∷ 9 ∷ 6 ∷ 7 ∷ [])
    -- one peel too many: its look counts, and is the last
    × (looking worked 0 (next worked [] (against (3 ∷ []))) [] (against (3 ∷ [])) ≡ 3)
unfolding salted rot packed groups joined width_of stratum_of count_trailing_zeros count_leading_zeros ◌⊕◌ neg 𝟎 reading run next first look is_pure difference filter_of
    sum_at put touches cell remove elem verdict all_zero is_zero agrees estimate_of sampled looked looking reach
numbers = (
  refl,
  refl,
  refl,
  refl,
  refl,
  refl,
  refl,
  refl,
  refl,
  refl,
  refl,
  refl,
  refl,
  refl,
  refl,
  refl,
  refl,
  refl,
  refl,
  refl,
  refl,
  refl,
  refl,
  refl,
  refl,
  refl,
  refl,
  refl,
)

-- columns of n empty buckets, and behind them one whose COUNT is c
abbrev pub empty_and : ℕ → ℤ → Columns
empty_and n c = columns (replicate (n + 1) 0) (replicate (n + 1) 0) (replicate n (pos 0) ++ c ∷ [])

-- what a reading found
abbrev pub found : Bool → ℕ → ℕ → ℕ → Reading
found whole a b l = record { complete = whole; ours = a; theirs = b; looked = l }

pub constants :
    -- "Refusal numbers", in the table's words
    (number_of None ≡ 0)
    -- "table, column, state or ledger breaks its form"
    × (refusal_number Form ≡ 1)
    -- "a lent buffer is shorter than stated here"
    × (refusal_number Room ≡ 2)
    -- "size or salt given by the caller outside range"
    × (refusal_number Range ≡ 3)
    -- "message malformed"
    × (refusal_number Malformed ≡ 4)
    -- "not in the grid, or DONE in 2 too early"
    × (refusal_number OutOfTurn ≡ 5)
    -- "a filter's reading false"
    × (refusal_number FalseReading ≡ 6)
    -- "wrong inquiry salt, a held ID asked or a hash demanded twice, not inquired, not offered, not demanded or met already, or an offered ID shared"
    × (refusal_number Breach ≡ 7)
    -- "checksums differ"
    × (refusal_number Checksum ≡ 8)
    -- "a 17th swap"
    × (refusal_number Swaps ≡ 9)
    -- "slips held plus wanted .. would pass 4,096"
    × (refusal_number Limit ≡ 10)
    -- a reading's answer: complete is 1 and stuck 0, both with their lists' lengths and no refusal; what is refused has neither, and of them 6
    -- alone has the number of buckets looked at
    × (map answer_of (Ok (found true 5 7 9) ∷ Ok (found false 5 7 9) ∷ Err (Untrue 9) ∷ []) ≡ answer 0 1 5 7 9 ∷ answer 0 0 5 7 9 ∷ answer 6 0 0 0 9 ∷ [])
    × (map answer_of (Err Unread.Form ∷ Err Unread.Range ∷ Err Unread.Room ∷ []) ≡ answer 1 0 0 0 0 ∷ answer 3 0 0 0 0 ∷ answer 2 0 0 0 0 ∷ [])
    -- an estimate's: known is 1 and unknown 0; what is unknown or refused has no number
    × (map estimate_answer (Ok (Known 48) ∷ Ok (Known 0) ∷ Ok Unknown ∷ []) ≡ estimate 0 1 48 ∷ estimate 0 1 0 ∷ estimate 0 0 0 ∷ [])
    × (map estimate_answer (Err Form ∷ Err Room ∷ []) ≡ estimate 1 0 0 ∷ estimate 2 0 0 ∷ [])
    -- "A filter has 37 to 4,096 buckets", "Salt is 0 to 63"
    × (map (λ size. in_range size 0) (36 ∷ 37 ∷ 4096 ∷ 4097 ∷ []) ≡ false ∷ true ∷ true ∷ false ∷ [])
    × (map (in_range 37) (63 ∷ 64 ∷ []) ≡ true ∷ false ∷ [])
    -- "COUNT (0 to 2^32 − 1)"
    × (map is_count (negsuc 0 ∷ pos 0 ∷ pos 4294967295 ∷ pos 4294967296 ∷ []) ≡ false ∷ true ∷ true ∷ false ∷ [])
    -- "hashes of 64 bytes, .. at most 4,096": of 64 × 4,096 bytes only the order decides, and neither one byte more nor one hash more is taken
    × ((derive : ℕ → ℕ) (t : List ℕ) → length t ≡ 262144 → is_table derive t ≡ ascending (hashes_of t) && distinct (ids_of derive t))
    × ((derive : ℕ → ℕ) (t : List ℕ) → length t ≡ 65 → is_table derive t ≡ false)
    × ((derive : ℕ → ℕ) (t : List ℕ) → length t ≡ 262208 → is_table derive t ≡ false)
    -- "The ID is the first eight bytes, most significant first."
    × (first_eight (0x0102030405060708 * 2 ^ 448 + 2 ^ 447) ≡ 0x0102030405060708)
    -- "CRC-32 of "123456789" is CBF43926"; "Its input is always eight bytes, most significant first."
    × (crc32 (0x31 ∷ 0x32 ∷ 0x33 ∷ 0x34 ∷ 0x35 ∷ 0x36 ∷ 0x37 ∷ 0x38 ∷ 0x39 ∷ []) ≡ 0xCBF43926)
    × (crc_of 0x3132333435363738 ≡ crc32 (0x31 ∷ 0x32 ∷ 0x33 ∷ 0x34 ∷ 0x35 ∷ 0x36 ∷ 0x37 ∷ 0x38 ∷ []))
    -- "Draw i+1 is the CRC-32 of the number draw i × 2^32 + i", "among draws 0 to 63; if there are fewer, the lowest bucket numbers"
    × ((d : ℕ) → draw crc_next d 2 ≡ crc_of (draw crc_next d 1 * 4294967296 + 1))
    × ((size d : ℕ) → candidate crc_next size d 63 ≡ draw crc_next d 63 % size)
    × ((size d : ℕ) → candidate crc_next size d 64 ≡ 0)
    -- "make up three"
    × (place_count 37 ≡ 3)
    -- "An ID's stratum is its number of trailing zero bits, at most 31."
    × (map stratum_of (2 ^ 30 ∷ 2 ^ 31 ∷ 2 ^ 32 ∷ []) ≡ 30 ∷ 31 ∷ 31 ∷ [])
    -- "32 strata of 79 buckets, salt 0, three places each"
    × ((estimator_rule 0).size ≡ 2528)
    × ((stratum_rule 0).size ≡ 79)
    × (length ((estimator_rule 0).places 8) ≡ 3)
    × ((f : ℕ → Bucket) → stratum 31 f 78 ≡ f 2527)
    × ((derive : ℕ → ℕ) → map (λ n. estimator_refusal derive [] (empty_and n (pos 0))) (2526 ∷ 2527 ∷ []) ≡ Some Room ∷ None ∷ [])
    × (map (λ n. estimate_refusal (empty_and n (pos 0)) (empty_and 2527 (pos 0))) (2526 ∷ 2527 ∷ []) ≡ Some Room ∷ None ∷ [])
    × (map (λ n. estimate_refusal (empty_and 2527 (pos 0)) (empty_and n (negsuc 0))) (2527 ∷ 2528 ∷ []) ≡ Some Form ∷ None ∷ [])
    -- "all strata, in the first's columns, and read from stratum 31 downwards"
    × ((a b : Columns) → estimate_refusal a b ≡ None
    → let d = less (view a) (view b) in
    estimate_call 0 a b ≡ estimated (made_answer (estimate_of 0 (readings 0 32 d))) (filled 2528 (remaining 0 32 d) a))
    -- 02, Req 02: "if a stratum is not complete and the total above it is zero, the answer is "unknown"": stratum 31 stuck, stratum 0 false
    × (estimate_of 0 (stuck ∷ replicate 31 (whole [])) ≡ Unknown)
    × (estimate_of 0 (replicate 31 (whole []) ++ (untrue ∷ [])) ≡ Unknown)
    -- "All other estimates stay": one listed in stratum 31, and stratum 30 false; all complete
    × (estimate_of 0 (whole (ours 1 ∷ []) ∷ untrue ∷ replicate 30 (whole [])) ≡ Known 2147483648)
    × (estimate_of 0 (replicate 32 (whole [])) ≡ Known 0)
    × (estimate_of 0 (replicate 31 (whole []) ++ (whole (ours 1 ∷ []) ∷ [])) ≡ Known 1)
    -- "readers take 1 to 32" as a width
    × (map is_width (0 ∷ 1 ∷ 32 ∷ 33 ∷ []) ≡ false ∷ true ∷ true ∷ false ∷ [])
unfolding in_range all_counts is_table first_eight crc32 feed steps crc_of groups draw stratum_of count_trailing_zeros places_by firsts candidates elem stratum
    estimator_refusal estimate_refusal has_room distinct hashes_of ids_of tabulated estimate_call estimate_of sampled all_zero is_zero 𝟎
constants = (
  refl,
  refl,
  refl,
  refl,
  refl,
  refl,
  refl,
  refl,
  refl,
  refl,
  refl,
  refl,
  refl,
  refl,
  refl,
  refl,
  refl,
  refl,
  λ derive t e. rw e refl,
  λ derive t e. rw e refl,
  λ derive t e. rw e refl,
  refl,
  refl,
  refl,
  λ d. refl,
  λ size d. refl,
  λ size d. refl,
  place-count_37,
  refl,
  refl,
  refl,
  refl,
  λ f. refl,
  λ derive. refl,
  refl,
  refl,
  λ a b e. rw e refl,
  refl,
  refl,
  refl,
  refl,
  refl,
  refl,
)
