pub mod AnswersCall
pub mod AnswersCauses
pub mod AnswersStory
pub mod Answered
