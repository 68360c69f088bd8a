use Rattle.std.proofs.Common.{List, ℕ, sym, subst}
use Rattle.ds_names.specs.Name.{is_name_byte}
use Rattle.ds_names.specs.Run.{Begins}
use Rattle.ds_line.proofs.FloorLemmas.{mark_missing, owner_space_missing, owner_missing, generation_space_missing, generation_missing}
use Rattle.ds_line.proofs.FloorLemmas.{newline_missing}
use Rattle.ds_line.proofs.item_reading.floor_at.Goals as goal
use Rattle.ds_line.proofs.item_reading.floor_at.Goals.{In-Some-name_at}

pub returns-in_default : goal.returns-in_default
returns-in_default c = mark_missing c.args.bytes.now c.stop_at.result c.stop_at.ensures c.in_default.ensures.none

pub returns-in_default-read_byte : goal.returns-in_default-read_byte
returns-in_default-read_byte c =
    owner_space_missing c.args.bytes.now c.in-Some.rest.now c.stop_at-in_default-read_byte.result c.stop_at-in_default-read_byte.ensures
    c.in-Some.ensures.found c.in_default-read_byte.ensures.none

pub returns-in_default-name_at : goal.returns-in_default-name_at
returns-in_default-name_at c =
    owner_missing c.args.bytes.now c.in-Some.rest.now c.in-Some-read_byte.at.now c.stop_at-in_default-name_at.result
    c.stop_at-in_default-name_at.ensures c.in-Some.ensures.found
    c.in-Some-read_byte.ensures.found c.in_default-name_at.ensures.none

pub returns-in_default-read_byte-2 : goal.returns-in_default-read_byte-2
returns-in_default-read_byte-2 c =
    let at = c.in-Some-read_byte.at.now in
    let owner = c.in-Some-name_at.owner in
    let name = subst (λ (t : List ℕ). Begins is_name_byte at owner t) (sym c.after_name-rest.ensures) c.in-Some-name_at.ensures.found in
    generation_space_missing owner c.args.bytes.now c.in-Some.rest.now at c.after_name-rest.result.now
    c.stop_at-in_default-read_byte-2.result
    c.stop_at-in_default-read_byte-2.ensures c.in-Some.ensures.found c.in-Some-read_byte.ensures.found
    c.in-Some-name_at.ensures.name name c.in_default-read_byte-2.ensures.none

pub returns-in_default-read_decimal : goal.returns-in_default-read_decimal
returns-in_default-read_decimal c =
    let at = c.in-Some-read_byte.at.now in
    let owner = c.in-Some-name_at.owner in
    let name = subst (λ (t : List ℕ). Begins is_name_byte at owner t) (sym c.after_name-rest.ensures) c.in-Some-name_at.ensures.found in
    generation_missing owner c.args.bytes.now c.in-Some.rest.now at c.after_name-rest.result.now c.in-Some-read_byte-2.at.now
    c.stop_at-in_default-read_decimal.result c.stop_at-in_default-read_decimal.ensures c.in-Some.ensures.found
    c.in-Some-read_byte.ensures.found c.in-Some-name_at.ensures.name name c.in-Some-read_byte-2.ensures.found
    c.in_default-read_decimal.ensures.none

pub returns-in_default-read_byte-3 : goal.returns-in_default-read_byte-3
returns-in_default-read_byte-3 c =
    let at = c.in-Some-read_byte.at.now in
    let owner = c.in-Some-name_at.owner in
    let name = subst (λ (t : List ℕ). Begins is_name_byte at owner t) (sym c.after_name-rest.ensures) c.in-Some-name_at.ensures.found in
    newline_missing owner c.in-Some-read_decimal.number c.args.bytes.now c.in-Some.rest.now at c.after_name-rest.result.now
    c.in-Some-read_byte-2.at.now c.in-Some-read_decimal.rest.now c.stop_at-in_default-read_byte-3.result
    c.stop_at-in_default-read_byte-3.ensures c.in-Some.ensures.found c.in-Some-read_byte.ensures.found c.in-Some-name_at.ensures.name name
    c.in-Some-read_byte-2.ensures.found
    c.in-Some-read_decimal.ensures.limit c.in-Some-read_decimal.ensures.found
    c.in_default-read_byte-3.ensures.none
