mod ClassExamples
