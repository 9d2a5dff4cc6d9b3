-- What is said of a job that cannot be read.
use Rattle.std.specs.Prelude.{ℕ, List, ◌++◌, codes, decimal}
use Rattle.job.specs.declared.problems.Problem.{Problem}
use Rattle.job.specs.declared.problems.Problem.TheVariants.{UnknownLine, UnknownWord, WordMissing, WordLeft, BadNumber, BadFloat, HeadNotFirst, SecondLine, SecondRecord, SecondKey, NothingAbove, OutOfMemory}
use Rattle.job.specs.declared.problems.JobError.{JobError}

abbrev pub problem_text : Problem → List ℕ
problem_text UnknownLine = codes "no line begins with this word"
problem_text UnknownWord = codes "this word means nothing here"
problem_text WordMissing = codes "a word is missing"
problem_text WordLeft = codes "there are words too many"
problem_text BadNumber = codes "a number is not one, or out of its range"
problem_text BadFloat = codes "a float is neither decimal nor x and eight hex digits"
problem_text HeadNotFirst = codes "the head line must come first"
problem_text SecondLine = codes "this line may stand only once"
problem_text SecondRecord = codes "this record was told before"
problem_text SecondKey = codes "a key is given twice"
problem_text NothingAbove = codes "there is no record above that this line belongs to"
problem_text OutOfMemory = codes "there is no memory for it"

-- as `line 2: no line begins with this word`
abbrev pub job_error_text : JobError → List ℕ
job_error_text e = codes "line " ++ decimal e.line ++ codes ": " ++ problem_text e.problem
