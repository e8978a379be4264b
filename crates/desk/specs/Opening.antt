-- To be believed. Opening the desk (document 01, 'The desk': 35, 30, then record by record 36, 37; a refused opening returns a
-- closed desk).
-- Assumes nothing.
use Rattle.std.specs.Prelude.{ℕ, cond, ◌&&◌, List, [], leb, eqb, ℤ, Result, Ok, Err}
use Rattle.desk.specs.declared.watch.Watch.{Watch}
use Rattle.desk.specs.declared.record.Desk.{Desk}
use Rattle.desk.specs.declared.done.OpeningRefusal.{OpeningRefusal}
use Rattle.desk.specs.declared.done.Opened.{Opened}
use Rattle.desk.specs.Codes.{opening_refusal_code, opened_code}
use Rattle.desk.specs.Limit.{is_limit}
use Rattle.desk.specs.Watch.{most_watched, list_fault}
use Rattle.desk.specs.Record.{closed, opened_with}

-- the code of an opening with n records
unfoldable pub open_code : ℕ → List Watch → ℤ → ℤ → ℕ
open_code n ws down up = cond (leb n most_watched) (cond (is_limit down && is_limit up) (list_fault [] ws) 30) 35

-- what an opening returns, by document 01's numbers
pub record Opening : Type 0 where
  pub code : ℕ
  pub desk : Desk

unfoldable pub refused_opening : ℕ → Opening
refused_opening code = record { code = code; desk = closed }

-- what an opening with n records returns
unfoldable pub opening : ℕ → List Watch → ℤ → ℤ → Opening
opening n ws down up =
    cond (eqb (open_code n ws down up) 0) (record { code = 0; desk = opened_with n ws down up }) (refused_opening (open_code n ws down up))

-- ---- the functions' answers, by their numbers
abbrev pub opened_numbers : Opened → Opening
opened_numbers r = record { code = opened_code r; desk = r.desk }

-- the desk of an accepted opening, or the closed desk of a refused one
unfoldable pub opening_of : Result Desk OpeningRefusal → Opening
opening_of (Ok d) = record { code = 0; desk = d }
opening_of (Err e) = refused_opening (opening_refusal_code e)
