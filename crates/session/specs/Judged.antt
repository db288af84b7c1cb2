-- What the functions of messages that are no slices count on behind the first refusals: cited by private contracts alone (proofs/InFormLaws).
use Rattle.std.specs.Prelude.{List, ℕ, ◌*◌, ◌≤◌, length, take}
use Rattle.ledger.specs.declared.numbers.Numbers.{Numbers}
use Rattle.form.specs.declared.tallying.Tally.{Tally}
use Rattle.session.specs.Ready.{Kept}

pub record InForm (N : Numbers) (table records marks inquired hash out : List ℕ) (T : Tally) : Type 0 where
  pub kept : Kept table (take (64 * N.demanded) records) marks
  pub demanded-few : N.demanded ≤ 4096
  pub inquired-few : N.inquired ≤ 4096
  pub records-room : 262208 ≤ length records
  pub inquired-room : 4096 ≤ length inquired
  pub hash-room : 64 ≤ length hash
  pub out-room : 295008 ≤ length out
  pub concerned-few : T.concerned ≤ 4096
  pub came-few : T.came ≤ 8192
