-- The replies of a script, as they are printed. Assumes nothing.
use Rattle.std.specs.Prelude.{ℕ, List, [], ◌∷◌, ◌++◌, map, vec_items, codes, decimal}
use Rattle.base.specs.declared.Fault.{Fault}
use Rattle.base.specs.Faults.{number, layer_number, row_number}
use Rattle.memory.specs.declared.RowKind.{RowKind}
use Rattle.memory.specs.declared.RowKind.TheVariants.{Written, Blank, Spoilt}
use Rattle.script.specs.Words.{hex_text}
use Rattle.reply.specs.declared.Reply.{Reply}
use Rattle.reply.specs.declared.Reply.TheVariants.{Done, Refused, Misuse, Row, Count, Rows, Loaded}

-- What a command is answered.
pub data Said : Type 0 where
  done : Said
  refused : Fault → Said
  misuse : Said
  row : RowKind → List ℕ → Said
  count : ℕ → ℕ → Said
  rows : List RowKind → Said
  loaded : ℕ → ℕ → Said

-- What a reply of the code says.
abbrev pub said : Reply → Said
said Done = done
said (Refused f) = refused f
said Misuse = misuse
said (Row k bs) = row k bs
said (Count n ceiling) = count n ceiling
said (Rows ks) = rows (vec_items ks)
said (Loaded slot version) = loaded slot version

-- A row's kind, before its bytes and as a letter.
abbrev pub kind_text : RowKind → List ℕ
kind_text Written = codes "written "
kind_text Blank = codes "blank "
kind_text Spoilt = codes "spoilt "

abbrev pub kind_letter : RowKind → ℕ
kind_letter Written = 119
kind_letter Blank = 98
kind_letter Spoilt = 115

-- A number with a text before it.
abbrev pub numbered : List ℕ → ℕ → List ℕ
numbered label n = label ++ decimal n

-- A fault: its three numbers.
abbrev pub case_text : Fault → List ℕ
case_text f = numbered (codes "fault ") (number f.case)

abbrev pub layer_text : Fault → List ℕ
layer_text f = numbered (codes " layer ") (layer_number f.layer)

abbrev pub fault_text : Fault → List ℕ
fault_text f = case_text f ++ (layer_text f ++ numbered (codes " row ") (row_number f.row))

-- What follows the name.
abbrev pub text_of : Said → List ℕ
text_of done = codes "ok"
text_of (refused f) = fault_text f
text_of misuse = codes "misuse"
text_of (row k bs) = kind_text k ++ hex_text bs
text_of (count n ceiling) = decimal n ++ numbered (codes " of ") ceiling
text_of (rows ks) = map kind_letter ks
text_of (loaded slot version) = numbered (codes "slot ") slot ++ numbered (codes " version ") version

-- The line that is printed: the command's name, the text, and byte 10.
unfoldable pub line_text : List ℕ → Said → List ℕ
line_text name s = name ++ (codes ": " ++ (text_of s ++ (10 ∷ [])))
