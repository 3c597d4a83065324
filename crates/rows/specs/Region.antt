-- The regions of work memory below its least length, as rows.
use Rattle.std.specs.Prelude.{ℕ, ◌+◌, ◌*◌, ◌/◌}
use Rattle.model.specs.Limits.{most_vertices, most_edges, most_label, most_longest, least_work}

-- the numbers of a row, one bit for each vertex, and the rows of work memory
abbrev pub row_numbers : ℕ
row_numbers = most_vertices / 64

abbrev pub work_rows : ℕ
work_rows = least_work / row_numbers

-- row a of the step rows: the vertices that vertex a steps to, for the pattern at hand; before that, every other suffix of the word on the
-- way to the parent's rows
abbrev pub step_rows : ℕ
step_rows = 0

-- row a of the parent's rows: the vertices to which edges lead from a by the pattern's labels after the first
abbrev pub parent_rows : ℕ
parent_rows = step_rows + most_vertices

-- the rows of the numbers that edge memory is saved in while a change is tried, and the first of these numbers
abbrev pub saved_rows : ℕ
saved_rows = parent_rows + most_vertices

abbrev pub saved_numbers : ℕ
saved_numbers = saved_rows * row_numbers

-- all vertices
abbrev pub root_row : ℕ
root_row = saved_rows + most_edges / row_numbers

-- a row for each label and each number of labels chosen so far: the vertices from which some walk spells one label more
abbrev pub child_rows : ℕ
child_rows = root_row + 1

-- three single rows. The vertices whose rows have not been taken in yet
abbrev pub open_row : ℕ
open_row = child_rows + most_longest * most_label

-- the starts that a second step may follow
abbrev pub rest_row : ℕ
rest_row = open_row + 1

-- the ends of a start that are left
abbrev pub picked_row : ℕ
picked_row = rest_row + 1
